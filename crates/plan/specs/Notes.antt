-- What is told that is no call of the unit, and what of it is compared.
use Rattle.std.specs.Prelude.{ℕ, Bool, true, false, List, [], ◌∷◌, ◌++◌, Some, None, Option, Ok, Err, Result, codes}
use Rattle.telegram.specs.Faults.{fault_number}
use Rattle.telegram.specs.declared.faults.Refused.{Refused}
use Rattle.driver_desk.specs.Numbers.{refusal_number}
use Rattle.plan.specs.declared.note.Note.{Note}
use Rattle.plan.specs.declared.note.Note.TheVariants.{Draft, End, Fault}
use Rattle.plan.specs.declared.rows.Told.{Told}
use Rattle.plan.specs.declared.rows.Told.TheVariants as tells

-- how the reading of a telegram ended
abbrev pub ending_note : Result ℕ Refused → Note
ending_note (Ok place) = End place
ending_note (Err r) = Fault r

abbrev pub note_name : Note → List ℕ
note_name (Draft refusal) = codes "draft"
note_name (Fault r) = codes "fault"
note_name (End place) = codes "end"

-- 0, or the number of the refusal
abbrev pub note_number : Note → ℕ
note_number (Draft refusal) = refusal_number refusal
note_number (Fault r) = fault_number r.fault
note_number (End place) = 0

-- what a note gives to compare: the number of what was refused; an end gives nothing
abbrev pub note_bounds : Note → List (Option ℕ)
note_bounds (Draft refusal) = Some (refusal_number refusal) ∷ []
note_bounds (Fault r) = Some (fault_number r.fault) ∷ []
note_bounds (End place) = []

-- the bound in front of a call: none where the call before it is inside a stretch
abbrev pub bound_behind : Bool → List (Option ℕ)
bound_behind true = []
bound_behind false = None ∷ []

-- the next mark, and those behind it; past the last mark nothing is inside
abbrev pub first_mark : List Bool → Bool
first_mark [] = false
first_mark (m ∷ ms) = m

abbrev pub other_marks : List Bool → List Bool
other_marks [] = []
other_marks (m ∷ ms) = ms

-- what of the rows is compared beside the calls: whether the call before was inside, the marks of the calls to come, the rows to come.
-- So the calls of a stretch have one bound in front, and what stands between them counts as standing behind the stretch.
abbrev pub note_trace : Bool → List Bool → List Told → List (Option ℕ)
note_trace inside marks [] = []
note_trace inside marks (tells.Call places ∷ rest) = bound_behind inside ++ note_trace (first_mark marks) (other_marks marks) rest
note_trace inside marks (tells.Note n ∷ rest) = note_bounds n ++ note_trace inside marks rest
