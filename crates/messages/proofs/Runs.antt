-- Calls one after another: what each keeps of the lines, and runs put behind each other.
use Rattle.std.proofs.Common.{◌≡◌, ◌==◌, ℕ, suc, true, not, eqb, List, [], ◌∷◌, ◌++◌, length, Some, None, Option, refl, ap, ◌∙◌, sym, arith}
use Rattle.std.specs.List.{AllByRecursion}
use Rattle.std.proofs.lemmas.Bool.{cond_both, true≢false}
use Rattle.telegram.specs.Format.{OrderValue, OrderValue.authority, OrderValue.level, OrderValue.text, OrderValue.withdrawal, OrderValue.stop, OrderValue.sign, OrderValue.permission}
use Rattle.driver_desk.specs.Answers.{is_accepted}
use Rattle.driver_desk.specs.Requests.{of_class}
use Rattle.driver_desk.specs.declared.answer.Answer.{Answer}
use Rattle.driver_desk.specs.declared.request.Class.TheVariants as class
use Rattle.driver_desk.specs.declared.request.Request.{Request}
use Rattle.cab_unit.specs.Events.{Event, Event.cycle, Event.order, Event.press, Event.take as taken, is_text}
use Rattle.cab_unit.specs.Facts.{Rising}
use Rattle.messages.specs.Shown.{ShownLine, shown_before, Display, dark, showing, without, with_text, with_order, with_acknowledged, with_call, after_call, after_calls, top, messages_from}
use Rattle.messages.specs.Standing.{LinesDiffer, StandingLaw}
use Rattle.messages.specs.Stretches.{after_text, after_texts}
use Rattle.messages.proofs.Lines.{Kept, fresh_without, rising-kept, differ-kept, Twelve, twelve-kept}

module _ (P : List ShownLine → Type 0) (k : Kept P) where
  kept_text : (n : ℕ) (t : List ℕ) (d : Display) → P d.lines → P (with_text n t d).lines
  kept_text n t d h =
      k.came (record { cycle = d.cycle; number = n; words = t }) (without n d.lines) (fresh_without n d.lines) (k.filtered (λ l. not (l.number == n)) d.lines h)

  kept_order : (o : OrderValue) (d : Display) → P d.lines → P (with_order o d).lines
  kept_order (authority m) d h = h
  kept_order (level l) d h = h
  kept_order (text n wanted t) d h = kept_text n t d h
  kept_order (withdrawal n) d h = k.filtered (λ l. not (l.number == n)) d.lines h
  kept_order stop d h = h
  kept_order sign d h = h
  kept_order permission d h = h

  kept_acknowledged : (r : Option Request) (d : Display) → P d.lines → P (with_acknowledged r d).lines
  kept_acknowledged None d h = h
  kept_acknowledged (Some r) d h =
      cond_both (of_class class.Text r) (showing (without r.number d.lines) d) d (λ v. P v.lines) (λ _. k.filtered (λ l. not (l.number == r.number)) d.lines h) (λ _. h)

  kept_call : (e : Event) (a : Answer) (d : Display) → P d.lines → P (with_call e a d).lines
  kept_call (cycle block) a d h = h
  kept_call (order o) a d h = kept_order o d h
  kept_call (press n) a d h =
      cond_both (eqb n 9) (showing [] d) (with_acknowledged a.acknowledged d) (λ v. P v.lines) (λ _. k.none) (λ _. kept_acknowledged a.acknowledged d h)
  kept_call (taken t) a d h = h

  -- a call keeps it
  pub kept_after : (e : Event) (a : Answer) (d : Display) → P d.lines → P (after_call e a d).lines
  kept_after e a d h = cond_both (is_accepted a) (with_call e a d) d (λ v. P v.lines) (λ _. kept_call e a d h) (λ _. h)

  -- so do many
  pub kept_after_calls : (es : List Event) (as' : List Answer) (d : Display) → P d.lines → P (after_calls es as' d).lines
  kept_after_calls [] as' d h = h
  kept_after_calls (e ∷ es) [] d h = h
  kept_after_calls (e ∷ es) (a ∷ as') d h = kept_after_calls es as' (after_call e a d) (kept_after e a d h)

  -- and a text
  pub kept_after_text : (e : Event) (d : Display) → P d.lines → P (after_text e d).lines
  kept_after_text (cycle block) d h = h
  kept_after_text (order o) d h = kept_order o d h
  kept_after_text (press n) d h = h
  kept_after_text (taken t) d h = h

  pub kept_after_texts : (es : List Event) (d : Display) → P d.lines → P (after_texts es d).lines
  kept_after_texts [] d h = h
  kept_after_texts (e ∷ es) d h = kept_after_texts es (after_text e d) (kept_after_text e d h)

-- lines in order stay so
pub rising_after : (e : Event) (a : Answer) (d : Display) → Rising shown_before d.lines → Rising shown_before (after_call e a d).lines
rising_after = kept_after (Rising shown_before) rising-kept

pub rising_after_calls : (es : List Event) (as' : List Answer) (d : Display) → Rising shown_before d.lines → Rising shown_before (after_calls es as' d).lines
rising_after_calls = kept_after_calls (Rising shown_before) rising-kept

pub rising_after_texts : (es : List Event) (d : Display) → Rising shown_before d.lines → Rising shown_before (after_texts es d).lines
rising_after_texts = kept_after_texts (Rising shown_before) rising-kept

-- numbers that differ do so behind a call
pub differ_after : (e : Event) (a : Answer) (d : Display) → LinesDiffer d.lines → LinesDiffer (after_call e a d).lines
differ_after = kept_after LinesDiffer differ-kept

pub differ_after_calls : (es : List Event) (as' : List Answer) (d : Display) → LinesDiffer d.lines → LinesDiffer (after_calls es as' d).lines
differ_after_calls = kept_after_calls LinesDiffer differ-kept

pub differ_after_texts : (es : List Event) (d : Display) → LinesDiffer d.lines → LinesDiffer (after_texts es d).lines
differ_after_texts = kept_after_texts LinesDiffer differ-kept

-- behind any run the lines are in order, their numbers differ, and twelve stand at most
pub standing_law : StandingLaw
standing_law es as' =
    (rising_after_calls es as' dark tt, differ_after_calls es as' dark tt, kept_after_calls Twelve twelve-kept es as' dark twelve-kept.none)

-- a text that is accepted
text_accepted : (e : Event) (a : Answer) (d : Display) → is_text e ≡ true → with_call e a d ≡ after_text e d
text_accepted (cycle block) a d h = absurd (true≢false (sym h))
text_accepted (order o) a d h = refl
text_accepted (press n) a d h = absurd (true≢false (sym h))
text_accepted (taken t) a d h = absurd (true≢false (sym h))

pub after_call_text : (e : Event) (a : Answer) (d : Display) → is_text e ≡ true → a.outcome ≡ None → after_call e a d ≡ after_text e d
after_call_text e a d t h = simp h (text_accepted e a d t)

-- texts that are accepted, one after another
pub after_calls_texts : (es : List Event) (as' : List Answer) (d : Display) → AllByRecursion (λ e. is_text e ≡ true) es → AllByRecursion (λ a. a.outcome ≡ None) as' → length as' ≡ length es →
    after_calls es as' d ≡ after_texts es d
after_calls_texts [] as' d t h l = refl
after_calls_texts (e ∷ es) [] d t h l = absurd (omega arith)
after_calls_texts (e ∷ es) (a ∷ as') d t h l =
    ap (after_calls es as') (after_call_text e a d t.0 h.0) ∙ after_calls_texts es as' (after_text e d) t.1 h.1 (omega arith)

-- a message for each call
pub length-messages_from : (d : Display) (es : List Event) (as' : List Answer) → length as' ≡ length es → length (messages_from d es as') ≡ length es
length-messages_from d [] as' l = refl
length-messages_from d (e ∷ es) [] l = l
length-messages_from d (e ∷ es) (a ∷ as') l = ap suc (length-messages_from (after_call e a d) es as' (omega arith))

-- calls behind other calls
pub after_calls-append : (d : Display) (es fs : List Event) (as' bs : List Answer) → length as' ≡ length es →
    after_calls (es ++ fs) (as' ++ bs) d ≡ after_calls fs bs (after_calls es as' d)
after_calls-append d [] fs [] bs l = refl
after_calls-append d [] fs (a ∷ as') bs l = absurd (omega arith)
after_calls-append d (e ∷ es) fs [] bs l = absurd (omega arith)
after_calls-append d (e ∷ es) fs (a ∷ as') bs l = after_calls-append (after_call e a d) es fs as' bs (omega arith)

pub messages_from-append : (d : Display) (es fs : List Event) (as' bs : List Answer) → length as' ≡ length es →
    messages_from d (es ++ fs) (as' ++ bs) ≡ messages_from d es as' ++ messages_from (after_calls es as' d) fs bs
messages_from-append d [] fs [] bs l = refl
messages_from-append d [] fs (a ∷ as') bs l = absurd (omega arith)
messages_from-append d (e ∷ es) fs [] bs l = absurd (omega arith)
messages_from-append d (e ∷ es) fs (a ∷ as') bs l = ap (λ t. top (after_call e a d).lines ∷ t) (messages_from-append (after_call e a d) es fs as' bs (omega arith))
