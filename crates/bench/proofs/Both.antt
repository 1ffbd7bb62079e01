-- Runs that are as defined, and the laws of them.
use Rattle.std.proofs.Common.{◌≡◌, ℕ, List, Option, sym, refl, ap, ◌∙◌, subst, subst₂}
use Rattle.cab_unit.specs.Events.{Event}
use Rattle.cab_unit.specs.State.{State}
use Rattle.cab_unit.specs.Steps.{switched_on}
use Rattle.driver_desk.specs.declared.answer.Answer.{Answer}
use Rattle.bench.specs.Both.{AsDefined, TwoRuns, Each, Laws}
use Rattle.bench.specs.Laws.{ByTheBook, ConfirmedOnce, SpeedsRead, AlikeEndEqual}
use Rattle.bench.specs.Runs.{after, answers, speeds, Run}
use Rattle.bench.proofs.Balance.{book_law}
use Rattle.bench.proofs.Likely.{likeness_law, speed_law}
use Rattle.bench.proofs.Standing.{entry_law}

-- a unit just switched on and run, with its answers and speeds, makes a run that is as defined
pub defined_run : (reads : List ℕ → Option ℕ) (speed : Option ℕ) (es : List Event) {as' : List Answer} {vs : List (Option ℕ)} {on s : State} →
    on ≡ switched_on speed → s ≡ after reads es on → as' ≡ answers reads es on → vs ≡ speeds reads es on →
    AsDefined (record { reads = reads; before = speed; calls = es; answers = as'; speeds = vs; last = s })
defined_run reads speed es {as'} {vs} {on} {s} o e a v =
    let run : List Answer → List (Option ℕ) → State → Run = λ bs ws t. record { reads = reads; before = speed; calls = es; answers = bs; speeds = ws; last = t } in
    subst (λ bs. run as' vs s ≡ run bs (speeds reads es (switched_on speed)) (after reads es (switched_on speed))) (a ∙ ap (answers reads es) o)
    (subst (λ ws. run as' vs s ≡ run as' ws (after reads es (switched_on speed))) (v ∙ ap (speeds reads es) o)
    (subst (λ t. run as' vs s ≡ run as' vs t) (e ∙ ap (after reads es) o) refl))

module _ {r : Run} (d : AsDefined r) where
  -- it goes by the book
  pub defined_booked : ByTheBook r
  defined_booked = subst ByTheBook (sym d) (book_law r.reads r.before r.calls)

  -- its last entry is confirmed once
  pub defined_confirmed : ConfirmedOnce r
  defined_confirmed = subst ConfirmedOnce (sym d) (entry_law r.reads r.before r.calls)

  -- its speeds are those read
  pub defined_read : SpeedsRead r
  defined_read = subst SpeedsRead (sym d) (speed_law r.reads r.before r.calls)

  -- and it ends as another that is like it
  pub defined_alike : {t : Run} → AsDefined t → AlikeEndEqual r t
  defined_alike {t} d' = subst₂ AlikeEndEqual (sym d) (sym d') (likeness_law r.reads t.reads r.before t.before r.calls t.calls)

-- the laws of two runs that are as defined
pub defined_laws : (rs : TwoRuns) → Each AsDefined rs → Laws rs
defined_laws rs d = record {
  defined = d;
  speeds = (defined_read d.0, defined_read d.1);
  book = (defined_booked d.0, defined_booked d.1);
  entries = (defined_confirmed d.0, defined_confirmed d.1);
  likeness = defined_alike d.0 d.1;
}
