-- Worked examples, by real bytes.
use Rattle.std.specs.Prelude.{◌≡◌, ℕ, true, false, List, [], ◌∷◌, codes}
use Rattle.telegram.specs.Format.{OrderValue.authority, OrderValue.level, OrderValue.text, OrderValue.withdrawal, OrderValue.stop, OrderValue.sign, OrderValue.permission}
use Rattle.telegram.specs.Reading.{ReadValue.order, ReadValue.end, ReadValue.fault, read_at}
use Rattle.telegram.specs.declared.faults.Fault.TheVariants.{CutShort, UnknownKind, WrongLength, OutsideList, FillerSet, TextByte}
use Rattle.telegram.specs.declared.modes.Mode.TheVariants.{FullSupervision, OnSight, LimitedSupervision}

-- Text 7, to be acknowledged, "Halt".
abbrev pub halt_bytes : List ℕ
halt_bytes = 0x30 ∷ 0x08 ∷ 0x07 ∷ 0x80 ∷ 0x48 ∷ 0x61 ∷ 0x6c ∷ 0x74 ∷ []

abbrev pub Edges : Type 0
Edges =
    (read_at halt_bytes 0 ≡ order (text 7 true (codes "Halt")) 0 8)
    × (read_at (0x10 ∷ 0x03 ∷ 0x40 ∷ []) 0 ≡ order (authority OnSight) 0 3)
    × (read_at (0x10 ∷ 0x03 ∷ 0xc0 ∷ []) 0 ≡ fault OutsideList 0)
    × (read_at (0x10 ∷ 0x03 ∷ 0x41 ∷ []) 0 ≡ fault FillerSet 0)
    × (read_at (0x30 ∷ 0x04 ∷ 0x07 ∷ 0x80 ∷ []) 0 ≡ fault WrongLength 0)

-- The orders and refusals that are left, one of each; an order behind another; the end.
abbrev pub MoreEdges : Type 0
MoreEdges =
    (read_at (0x30 ∷ 0x05 ∷ 0x07 ∷ 0x00 ∷ 0x48 ∷ []) 0 ≡ order (text 7 false (codes "H")) 0 5)
    × (read_at (0x10 ∷ 0x03 ∷ 0x00 ∷ []) 0 ≡ order (authority FullSupervision) 0 3)
    × (read_at (0x10 ∷ 0x03 ∷ 0x80 ∷ []) 0 ≡ order (authority LimitedSupervision) 0 3)
    × (read_at (0x20 ∷ 0x03 ∷ 0x80 ∷ []) 0 ≡ order (level 2) 0 3)
    × (read_at (0x40 ∷ 0x03 ∷ 0x07 ∷ []) 0 ≡ order (withdrawal 7) 0 3)
    × (read_at (0x50 ∷ 0x02 ∷ []) 0 ≡ order stop 0 2)
    × (read_at (0x60 ∷ 0x02 ∷ []) 0 ≡ order sign 0 2)
    × (read_at (0x50 ∷ 0x02 ∷ 0x70 ∷ 0x02 ∷ []) 2 ≡ order permission 2 4)
    × (read_at (0x50 ∷ 0x02 ∷ []) 2 ≡ end 2)
    × (read_at (0x10 ∷ 0x03 ∷ []) 0 ≡ fault CutShort 0)
    × (read_at (0x80 ∷ 0x02 ∷ []) 0 ≡ fault UnknownKind 0)
    × (read_at (0x30 ∷ 0x05 ∷ 0x07 ∷ 0x00 ∷ 0x7f ∷ []) 0 ≡ fault TextByte 0)
