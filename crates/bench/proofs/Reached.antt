-- Every state that calls can reach has the facts; what follows for single calls.
use Rattle.std.proofs.Common.{ℕ, List, [], ◌∷◌, Option}
use Rattle.telegram.specs.declared.modes.Mode.TheVariants.{OnSight}
use Rattle.cab_unit.specs.Events.{Event}
use Rattle.cab_unit.specs.Facts.{Facts}
use Rattle.cab_unit.specs.State.{State}
use Rattle.cab_unit.specs.Steps.{next, switched_on}
use Rattle.cab_unit.proofs.Facts.{facts_on, facts_step}
use Rattle.cab_unit.proofs.Reading.{repeated_authority, moving-keeps-authority, acknowledges-first}
use Rattle.bench.specs.Readings.{RuledOut}
use Rattle.bench.specs.Runs.{after, final_state}

pub facts_after : (reads : List ℕ → Option ℕ) (es : List Event) (s : State) → Facts s → Facts (after reads es s)
facts_after reads [] s f = f
facts_after reads (e ∷ es) s f = facts_after reads es (next reads e s) (facts_step reads e s f)

pub ruled_out : RuledOut
ruled_out reads speed es =
    let s = final_state reads speed es in (
      repeated_authority reads OnSight s,
      λ block. moving-keeps-authority reads block s,
      λ r. acknowledges-first reads s r (facts_after reads es (switched_on speed) (facts_on speed)),
    )
