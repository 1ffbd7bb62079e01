-- Two cabs side by side: what is said of each run, and of both.
use Rattle.std.specs.Prelude.{◌≡◌}
use Rattle.bench.specs.Laws.{ByTheBook, ConfirmedOnce, SpeedsRead, AlikeEndEqual}
use Rattle.bench.specs.Runs.{Run, run_of}

-- the run is the one that its calls make on an unused unit, on its end
abbrev pub AsDefined : Run → Type 0
AsDefined r = r ≡ run_of r.reads r.before r.calls

pub record TwoRuns : Type 0 where
  pub one : Run
  pub other : Run

-- it holds of each
abbrev pub Each : (Run → Type 0) → TwoRuns → Type 0
Each P rs = P rs.one × P rs.other

-- the laws over runs, of two cabs
pub record Laws (rs : TwoRuns) : Type 0 where
  pub defined : Each AsDefined rs
  pub speeds : Each SpeedsRead rs
  pub book : Each ByTheBook rs
  pub entries : Each ConfirmedOnce rs
  pub likeness : AlikeEndEqual rs.one rs.other
