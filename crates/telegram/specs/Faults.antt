-- The refusals of the reader: the number of each, and the words for people.
use Rattle.std.specs.Prelude.{ℕ, List, codes}
use Rattle.telegram.specs.declared.faults.Fault.{Fault}
use Rattle.telegram.specs.declared.faults.Fault.TheVariants.{CutShort, UnknownKind, WrongLength, OutsideList, FillerSet, TextByte}

abbrev pub fault_number : Fault → ℕ
fault_number CutShort = 20
fault_number UnknownKind = 21
fault_number WrongLength = 22
fault_number OutsideList = 23
fault_number FillerSet = 24
fault_number TextByte = 25

abbrev pub fault_words : Fault → List ℕ
fault_words CutShort = codes "cut short"
fault_words UnknownKind = codes "unknown kind"
fault_words WrongLength = codes "wrong length"
fault_words OutsideList = codes "value outside its list"
fault_words FillerSet = codes "filler bit set"
fault_words TextByte = codes "text byte outside its list"
