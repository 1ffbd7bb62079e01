use Rattle.std.proofs.Common.{◌≡◌, ℕ, List, [], map, length, vec_items, Ok, sym, ap, ◌∙◌, subst, arith, Bor}
use Rattle.telegram.specs.Whole.{PlacedValue, placed_of, is_order}
use Rattle.telegram.proofs.Readings.{Reads, Reads.ended, Reads.refused, Reads.read, answered, all_read, order-within, map-more-then, whole-telegram, ends-within, reads_whole}
use Rattle.telegram.proofs.whole.read_all.Goals as goal
use Rattle.telegram.proofs.whole.read_all.Goals.{in-Ok-None, in-Err}

pub loop-placed-smaller : goal.loop-placed-smaller
loop-placed-smaller c =
    let n = rw c.in-Ok-Some.field-0-is at c.in-Ok-Some.ensures in
    let t = c.args.telegram.now in
    let p = c.loop-placed.reader.place in
    let within = order-within t p _ _ c.in-Ok-Some.placed.after (answered t _ p _ c.loop-placed.invariant.0 n.answer) in
    omega (arith, within, n.place)

pub loop-placed-preserved : goal.loop-placed-preserved
loop-placed-preserved c =
    let n = rw c.in-Ok-Some.field-0-is at c.in-Ok-Some.ensures in
    let t = c.args.telegram.now in
    let p = c.loop-placed.reader.place in
    let here = answered t _ p _ c.loop-placed.invariant.0 n.answer in
    let items = c.in_ok-push-in-Ok-Some.ensures.items in (
      ap (λ (x : Bor (List ℕ)). x.now) n.telegram ∙ c.loop-placed.invariant.0,
      λ os e r.
          subst (λ (x : List PlacedValue). Reads t 0 x e) (sym (map-more-then placed_of (vec_items c.loop-placed.orders) (vec_items c.push.new.self) _ os items))
          (c.loop-placed.invariant.1 _ e (read here (subst (λ (x : ℕ). Reads t x os e) n.place r))),
      λ _. c.loop-placed.invariant.2 (ap is_order here),
    )

pub returns : goal.returns
returns c =
    let t = c.args.telegram.now in
    let p = c.loop-placed.reader.place in
    let same = c.loop-placed.invariant.0 in
    let os = map placed_of (vec_items c.loop-placed.orders) in
    let rest : Reads t p [] c.match-next.ending = elim c.match-next.branch [
      | in-Ok-None w ↦
          let n = rw w.in-Ok-None.field-0-is at w.in-Ok-None.ensures in
          let place : c.match-next.ending ≡ Ok c.next.new.self.place = w.ending-is ∙ ap (λ (x : ℕ). Ok x) w.place.ensures in
          subst (Reads t p []) (sym place) (ended (answered t _ p _ same n.answer))
      | in-Err w ↦ subst (Reads t p []) (sym w.ending-is) (refused (answered t _ p _ same w.in-Err.ensures.answer))
    ] in
    let all = all_read t os _ (c.loop-placed.invariant.1 [] _ rest) in
    record {
      value = sym (reads_whole t 0 (length t) os _ (omega arith) all);
      law = whole-telegram t os _ all;
      within = ends-within t 0 os _ (omega arith) all;
      memory = tt;
    }
