use Rattle.std.proofs.Common.{length, vec_items, sym, ◌∙◌, arith, rules, tests}
use Rattle.std.specs.List.{slice_split}
use Rattle.std.proofs.lemmas.Result.{err_from_is_err_and}
use Rattle.std.proofs.lemmas.List.{length_push}
use Rattle.call_list.specs.Words.{is_break}
use Rattle.call_list.proofs.Texts.{pieces_want, list_start, list_more, list_bad, list_wants, want_more, list_end, pieces_road, piece_turn, piece_end}
use Rattle.call_list.proofs.list.read_list.Goals as goal

pub loop-i-init : goal.loop-i-init
loop-i-init c = (
  list_start (vec_items c.new-listed.result) c.args.text.now (search rules),
  λ h. sym (pieces_want c.args.text.now) ∙ h,
)

pub returns-in_err-note_line-clause-reads : goal.returns-in_err-note_line-clause-reads
returns-in_err-note_line-clause-reads c =
    let all = slice_split is_break c.args.text.now in
    let road = pieces_road {r = c.split.result} c.args.text.now _ _ c.loop-i.yielded_by c.split.ensures.rest c.split.ensures.done c.split.ensures.closure (cc) (cc) (λ x b q k. search (rules, tests)) in
    let turn = piece_turn all road _ _ c.loop-i.yielded_by _ c.next.new.self (c.in-Some.i, c.in-Some.line) c.in-Some.is c.next.ensures.steps in
    let p = err_from_is_err_and c.from_residual.result c.from_residual.ensures.1 in
    rw (p.1, p.2)
    (list_bad (vec_items c.loop-i.listed) (vec_items c.note_line.new.listed) (length c.loop-i.yielded) _ all c.in-Some.line.now turn.0 (omega (arith, turn.1)) turn.2
    c.args.text.now c.in_err-note_line.field-0.0 c.loop-i.invariant.0 c.in_err-note_line.ensures)

pub returns-in_err-note_line-clause-value : goal.returns-in_err-note_line-clause-value
returns-in_err-note_line-clause-value c =
    let all = slice_split is_break c.args.text.now in
    let road = pieces_road {r = c.split.result} c.args.text.now _ _ c.loop-i.yielded_by c.split.ensures.rest c.split.ensures.done c.split.ensures.closure (cc) (cc) (λ x b q k. search (rules, tests)) in
    let turn = piece_turn all road _ _ c.loop-i.yielded_by _ c.next.new.self (c.in-Some.i, c.in-Some.line) c.in-Some.is c.next.ensures.steps in
    let p = err_from_is_err_and c.from_residual.result c.from_residual.ensures.1 in
    rw (p.1, p.2)
    (list_wants (vec_items c.loop-i.listed) (vec_items c.note_line.new.listed) (length c.loop-i.yielded) _ all c.in-Some.line.now turn.0 (omega (arith, turn.1)) turn.2
    c.args.text.now c.in_err-note_line.field-0.0 c.loop-i.invariant.0 c.loop-i.invariant.1 c.in_err-note_line.ensures)

pub loop-i-preserved : goal.loop-i-preserved
loop-i-preserved c =
    let all = slice_split is_break c.args.text.now in
    let road = pieces_road {r = c.split.result} c.args.text.now _ _ c.loop-i.yielded_by c.split.ensures.rest c.split.ensures.done c.split.ensures.closure (cc) (cc) (λ x b q k. search (rules, tests)) in
    let turn = piece_turn all road _ _ c.loop-i.yielded_by _ c.next.new.self (c.in-Some.i, c.in-Some.line) c.in-Some.is c.next.ensures.steps in (
      list_more (vec_items c.loop-i.listed) (vec_items c.note_line.new.listed) (length c.loop-i.yielded) _ all c.in-Some.line.now turn.0 (omega (arith, turn.1)) turn.2
          _ c.loop-i.invariant.0 _ tt (length_push c.loop-i.yielded (c.in-Some.i, c.in-Some.line)) c.in_ok-note_line.ensures,
      λ h. c.loop-i.invariant.1 (want_more (vec_items c.loop-i.listed) (vec_items c.note_line.new.listed) (length c.loop-i.yielded) _ all c.in-Some.line.now
          turn.0 (omega (arith, turn.1)) turn.2 _ tt (length_push c.loop-i.yielded (c.in-Some.i, c.in-Some.line)) c.in_ok-note_line.ensures h),
    )

pub returns-clause-reads : goal.returns-clause-reads
returns-clause-reads c =
    let all = slice_split is_break c.args.text.now in
    let road = pieces_road {r = c.split.result} c.args.text.now _ _ c.loop-i.yielded_by c.split.ensures.rest c.split.ensures.done c.split.ensures.closure (cc) (cc) (λ x b q k. search (rules, tests)) in
    let e = piece_end all road _ _ c.loop-i.yielded_by _ c.next.new.self c.in-None.is c.next.ensures.steps in
    list_end (vec_items c.loop-i.listed) (length c.loop-i.yielded) all c.args.text.now c.loop-i.invariant.0 e

pub returns-clause-value : goal.returns-clause-value
returns-clause-value c =
    let all = slice_split is_break c.args.text.now in
    let road = pieces_road {r = c.split.result} c.args.text.now _ _ c.loop-i.yielded_by c.split.ensures.rest c.split.ensures.done c.split.ensures.closure (cc) (cc) (λ x b q k. search (rules, tests)) in
    let e = piece_end all road _ _ c.loop-i.yielded_by _ c.next.new.self c.in-None.is c.next.ensures.steps in
    list_end (vec_items c.loop-i.listed) (length c.loop-i.yielded) all c.args.text.now c.loop-i.invariant.0 e
