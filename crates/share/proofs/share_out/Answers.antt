use Rattle.std.proofs.Common.{◌≡◌, ◌+◌, ◌≤◌, ap, get_or, rules, length, replicate, ℤ, pos, sym, refl, ◌∙◌, subst, arith, w64, SFits, to_z, of_z}
use Rattle.std.proofs.lemmas.Int.{ints, to_z-of_z}
use Rattle.share.specs.Shares.{share}
use Rattle.share.proofs.Keeping.{shared_out}
use Rattle.share.proofs.Turns.{weight_turn, share_from, SharedUpto, shared_none, shared_more, each_share, each_nothing, written_fits, written_is}
use Rattle.share.proofs.share_out.Goals as goal

pub returns-then-total-eq0 : goal.returns-then-total-eq0
returns-then-total-eq0 c =
    let m : length c.args.weights.now ≤ 16 = c.if-weights-gt-PLACES.false in
    let s = shared_none c.args.amount c.args.weights.now in
    let k = shared_out c.args.amount c.args.weights.now (replicate 16 (pos 0)) m s.0 (each_nothing c.args.amount c.args.weights.now (replicate 16 (pos 0)) (sym c.total_of-total.ensures.value ∙ c.if-total-eq0.true) s) in
    record { value = k.value; some = λ _. refl; each = k.each; adds = k.adds; near = k.near; none = k.none; within = k.within; bounded = k.bounded }

pub overflow_add-upto : goal.overflow_add-upto
overflow_add-upto c =
    let m = weight_turn c.args.weights.now c.loop-k.k c.loop-k.before c.total_of-total.result c.loop-k.invariant.0 c.total_of-total.ensures.value in
    omega arith

pub share_of-share-requires : goal.share_of-share-requires
share_of-share-requires c =
    let m = weight_turn c.args.weights.now c.loop-k.k c.loop-k.before c.total_of-total.result c.loop-k.invariant.0 c.total_of-total.ensures.value in
    record { some = omega arith; within = (omega arith, omega arith); small = omega arith }

-- the amount, passed, is itself, and the share is the definition's
passed : (c : goal.After-share_of-share) → SFits w64 (to_z w64 (of_z w64 c.args.amount))
passed c = let f = c.ranges.amount in omega (arith, ints)

weight_read : (c : goal.After-share_of-share) → c.from.result ≡ get_or c.args.weights.now c.loop-k.k 0
weight_read c = search rules

shared_is : (c : goal.After-share_of-share) → c.share_of-share.result ≡ share (to_z w64 (of_z w64 c.args.amount)) c.args.weights.now c.loop-k.k
shared_is c =
    let m = weight_turn c.args.weights.now c.loop-k.k c.loop-k.before c.total_of-total.result c.loop-k.invariant.0 c.total_of-total.ensures.value in
    c.share_of-share.ensures.value ∙ share_from (to_z w64 (of_z w64 c.args.amount)) c.args.weights.now c.loop-k.k _ _ _ c.loop-k.invariant.0 (ap (λ w. c.loop-k.before + w) (weight_read c) ∙ m.0) c.total_of-total.ensures.value

pub overflow_cast-shares : goal.overflow_cast-shares
overflow_cast-shares c = written_fits (to_z w64 (of_z w64 c.args.amount)) c.share_of-share.result c.args.weights.now c.loop-k.k (passed c) (shared_is c)

pub loop-k-preserved : goal.loop-k-preserved
loop-k-preserved c =
    let m = weight_turn c.args.weights.now c.loop-k.k c.loop-k.before c.total_of-total.result c.loop-k.invariant.0 c.total_of-total.ensures.value in
    let room : length c.args.weights.now ≤ 16 = c.if-weights-gt-PLACES.false in
    let v = written_is (to_z w64 (of_z w64 c.args.amount)) c.share_of-share.result c.args.weights.now c.loop-k.k (passed c) (shared_is c) in
    (ap (λ w. c.loop-k.before + w) (weight_read c) ∙ m.0, shared_more (to_z w64 (of_z w64 c.args.amount)) _ c.args.weights.now c.loop-k.k c.loop-k.shares c.loop-k-test.true room v c.loop-k.invariant.1)

pub returns : goal.returns
returns c =
    let m : length c.args.weights.now ≤ 16 = c.if-weights-gt-PLACES.false in
    let P : ℤ → Type 0 = λ a. SharedUpto a c.args.weights.now c.loop-k.k c.loop-k.shares in
    let s : P c.args.amount = subst P (to_z-of_z w64 c.args.amount c.ranges.amount) c.loop-k.invariant.1 in
    let k = shared_out c.args.amount c.args.weights.now c.loop-k.shares m s.0 (each_share c.args.amount c.args.weights.now c.loop-k.k c.loop-k.shares c.loop-k-test.false s) in
    record { value = k.value; some = λ _. refl; each = k.each; adds = k.adds; near = k.near; none = k.none; within = k.within; bounded = k.bounded }
