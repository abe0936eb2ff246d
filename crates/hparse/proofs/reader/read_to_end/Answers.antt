use Rattle.hparse.proofs.Names.{◌≡◌, ℕ, ◌+◌, ◌<◌, ◌≤◌, List, [], length, take, drop, ap, subst, ◌∙◌, sym, arith, rules, err_from_is_err_and, Consumes, MAX_INPUT}
use Rattle.hparse.proofs.Turns.{no_buffer, not_turned, no_turn, turned, refused_turn, failed_turn, ended, front_of_buffer, some_of_buffer, few_of_buffer}
use Rattle.hparse.proofs.reader.read_to_end.Goals as goal

pub loop-turn-init : goal.loop-turn-init
loop-turn-init g c = (λ m began before h. not_turned h, search rules)

pub returns-in-Some-eq0 : goal.returns-in-Some-eq0
returns-in-Some-eq0 g c = λ m began before start.
    let h = c.loop-turn.invariant.0 m began before start in let buffer : List ℕ = c.read.new.buffer in let some : 0 < length buffer = omega arith in
    let none : take c.in-Some-eq0.field-0 buffer ≡ [] = ap (λ (n : ℕ). take n buffer) c.in-Some-eq0.field-0-test in
    ended h c.read.new.self (take c.in-Some-eq0.field-0 buffer) c.in-Some-eq0.ensures.bytes.1 c.in-Some-eq0.ensures.count c.args.piece c.end.new.self
    c.end.result none (c.in-Some-eq0.ensures.bytes.2 c.in-Some-eq0.field-0-test some) (c.end.ensures m began _ h.has_read)

pub returns-in-None : goal.returns-in-None
returns-in-None g c = λ m began before start.
    let h = c.loop-turn.invariant.0 m began before start in failed_turn h c.read.new.self c.args.piece c.in-None.ensures.bytes c.in-None.ensures.count

pub returns-in_err-buffer : goal.returns-in_err-buffer
returns-in_err-buffer g c = λ m began before start.
    let e = err_from_is_err_and c.from_residual.result c.from_residual.ensures.1 in rw (e.1, e.2) (no_buffer start)

pub returns-in_err-feed-in-Some : goal.returns-in_err-feed-in-Some
returns-in_err-feed-in-Some g c = λ m began before start.
    let h = c.loop-turn.invariant.0 m began before start in
    let e = err_from_is_err_and c.from_residual-in_err-feed-in-Some.result c.from_residual-in_err-feed-in-Some.ensures.1 in
    let same = front_of_buffer c.in-Some.count c.loop-turn.buffer.len c.read.new.buffer (drop (length c.read.new.buffer) c.loop-turn.buffer.items)
    c.deref.result.now c.deref.ensures.value (c.read.auto.buffer ∙ c.deref_mut.ensures.len) in
    let few : length (take c.in-Some.count c.deref.result.now) ≤ c.args.piece =
    subst (λ (bytes : List ℕ). length bytes ≤ c.args.piece) (sym same) (few_of_buffer c.in-Some.count c.args.piece c.read.new.buffer
    (c.read.auto.buffer ∙ c.deref_mut.ensures.len ∙ c.loop-turn.invariant.1) c.in-Some.ensures.bytes.0) in
    rw (e.1, e.2) (refused_turn h c.read.new.self (take c.in-Some.count c.deref.result.now)
    (subst (Consumes (g.R.Source.left c.loop-turn.source) (g.R.Source.left c.read.new.self)) (sym same) c.in-Some.ensures.bytes.1) c.in-Some.ensures.count
    c.args.piece c.feed.new.self c.in_err-feed-in-Some.field-0.0 few (c.in_err-feed-in-Some.ensures m began _ h.has_read))

pub loop-turn-preserved : goal.loop-turn-preserved
loop-turn-preserved g c = (
  λ m began before start. let h = c.loop-turn.invariant.0 m began before start in
      let same = front_of_buffer c.in-Some.count c.loop-turn.buffer.len c.read.new.buffer (drop (length c.read.new.buffer) c.loop-turn.buffer.items)
      c.deref.result.now c.deref.ensures.value (c.read.auto.buffer ∙ c.deref_mut.ensures.len) in
      let some = some_of_buffer c.in-Some.count c.read.new.buffer c.deref.result.now same c.in-Some.count-test.1 c.in-Some.ensures.bytes.0 in
      turned h c.read.new.self (take c.in-Some.count c.deref.result.now)
      (subst (Consumes (g.R.Source.left c.loop-turn.source) (g.R.Source.left c.read.new.self)) (sym same) c.in-Some.ensures.bytes.1) c.in-Some.ensures.count
      c.feed.new.self some (c.in_ok-feed-in-Some.ensures m began _ h.has_read),
  c.loop-turn.invariant.1,
)

pub returns : goal.returns
returns g c = λ m began before start.
    let h = c.loop-turn.invariant.0 m began before start in let fits : m.limit ≤ MAX_INPUT = start.fits in
    let many : m.limit + 3 < c.loop-turn._turn = omega arith in
    no_turn h c.args.piece _ many
