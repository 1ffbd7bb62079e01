-- What each order does.
use Rattle.std.specs.Prelude.{ℕ, ◌+◌, Bool, true, false, cond, not, None, filter}
use Rattle.telegram.specs.Format.{OrderValue, OrderValue.authority, OrderValue.level, OrderValue.text, OrderValue.withdrawal, OrderValue.stop, OrderValue.sign, OrderValue.permission}
use Rattle.telegram.specs.Modes.{mode_code}
use Rattle.telegram.specs.declared.modes.Mode.{Mode}
use Rattle.telegram.specs.declared.modes.Mode.TheVariants.{StaffResponsible, FullSupervision, Unfitted, Trip}
use Rattle.cab_unit.specs.Moves.{with_level, with_authority, with_pending, with_silence, on_desk, on_waiting, entered, withdrawn_at, Change, change, quiet, raising}
use Rattle.driver_desk.specs.Numbers.{is_mode, is_level, level_number, level_of}
use Rattle.driver_desk.specs.Requests.{is_for, not_of_class, number_of}
use Rattle.cab_unit.specs.State.{State}
use Rattle.driver_desk.specs.declared.level.Level.{Level}
use Rattle.driver_desk.specs.declared.level.Level.TheVariants.{Zero}
use Rattle.driver_desk.specs.declared.request.Class.TheVariants as class

-- authority is held, no start is pending, silence is 0
abbrev pub authorized : State → State
authorized s = on_desk (λ d. with_silence 0 (with_pending false (with_authority true d))) s

-- for the mode that stands it is a renewal alone; of the others Full Supervision needs no yes
unfoldable pub authority_change : Mode → State → Change
authority_change m s =
    cond (is_mode s.desk.mode m) (quiet s)
    (cond (is_mode m FullSupervision) (change (entered m s) None None (withdrawn_at m s))
    (raising class.Mode (mode_code m) true (entered m s) (withdrawn_at m s)))

-- what was asked of the old level goes with it
abbrev pub levelled : Level → State → State
levelled l s = on_waiting (filter (not_of_class class.Level)) (on_desk (with_level l) s)

abbrev pub unauthorized : State → State
unauthorized s = on_desk (with_authority false) s

-- from level `old` to another: out of ETCS, into it, or from balises to radio and back
unfoldable pub level_change : Level → Level → State → Change
level_change old l s =
    cond (is_level l Zero) (raising class.Mode (mode_code Unfitted) true (unauthorized (entered Unfitted (levelled l s))) (number_of class.Level s.waiting + withdrawn_at Unfitted (levelled l s)))
    (cond (is_level old Zero) (raising class.Mode (mode_code StaffResponsible) true (entered StaffResponsible (levelled l s)) (number_of class.Level s.waiting + withdrawn_at StaffResponsible (levelled l s)))
    (raising class.Level (level_number l) true (levelled l s) (number_of class.Level s.waiting)))

abbrev pub text_change : ℕ → Bool → State → Change
text_change n true s = raising class.Text n true s 0
text_change n false s = quiet s

abbrev pub order_change : OrderValue → State → Change
order_change (authority m) s = authority_change m (authorized s)
order_change (level l) s = cond (is_level (level_of l) s.desk.level) (quiet s) (level_change s.desk.level (level_of l) s)
order_change (text n wanted t) s = text_change n wanted s
order_change (withdrawal n) s = change (on_waiting (filter (λ r. not (is_for class.Text n r))) s) None None 1
order_change stop s = raising class.Trip 0 false (unauthorized (entered Trip s)) (withdrawn_at Trip s)
order_change sign s = quiet (on_desk (with_silence 0) s)
order_change permission s = raising class.Mode (mode_code StaffResponsible) false (on_desk (with_pending false) s) 0
