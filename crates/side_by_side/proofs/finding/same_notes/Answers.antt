use Rattle.std.proofs.Common.{nat_eq}
use Rattle.std.proofs.lemmas.Bool.Decides.{Decides-eqb}
use Rattle.std.proofs.lemmas.Slice.Eq.{slice_eq-Decides}
use Rattle.compare.proofs.Equal.{option_decides}
use Rattle.side_by_side.proofs.finding.same_notes.Goals as goal

pub returns : goal.returns
returns c = slice_eq-Decides (option_decides nat_eq Decides-eqb) _ _ _ c.eq.ensures
