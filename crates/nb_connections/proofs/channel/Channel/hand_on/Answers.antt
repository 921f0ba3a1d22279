use Rattle.std.proofs.Common.{ℕ, ◌≡◌, drop, take, refl, sym, ap, subst, ◌∙◌, rules, List, [], ◌++◌}
use Rattle.nb_session.specs.Cutting.{ArePackets, BeginsWithNone}
use Rattle.nb_connections.specs.Rests.{StandsAfter}
use Rattle.nb_connections.proofs.ChannelLemmas.{handed_on, held_is}
use Rattle.nb_connections.proofs.channel.Channel.hand_on.Goals as goal

pub returns-clause-hands_on : goal.returns-clause-hands_on
returns-clause-hands_on c = λ old keeps.
    let hands = c.in_ok-hand_on.ensures.hands_on in
    let orders = hands.orders _ old.segments old.out keeps.orders in
    let row = c.as_slice.ensures.value in
    let packets = c.whole_packets-end.ensures.packets in
    let got = handed_on c.args.self.now _ old hands.handed c.hand_on.new.to.items c.whole_packets-end.result.0 packets.0 keeps orders
    (c.in_ok-hand_on.ensures.all _ old.segments (old.out ++ hands.handed) orders) (search rules) (search rules) (search rules) refl c.in_ok-hand_on.ensures.first (held_is _ c.replace.new.dest.items c.deref.result.now c.whole_packets-end.result.0 c.in_ok-extend_from_slice.ensures.items (ap (λ v. v.items) c.replace.ensures.after ∙ c.new.ensures.items) ∙ ap (λ (x : List ℕ). drop c.whole_packets-end.result.0 x) c.deref.ensures.value) in
    (packets.0, search rules, got.0, got.1, got.2, search rules)

pub returns-then-end-eq0-clause-hands_on : goal.returns-then-end-eq0-clause-hands_on
returns-then-end-eq0-clause-hands_on c = λ old keeps.
    let hands = c.in_ok-hand_on.ensures.hands_on in
    let orders = hands.orders _ old.segments old.out keeps.orders in
    let row = c.hand_on.new.to.items in
    let end = c.whole_packets-end.result.0 in
    let packets = c.whole_packets-end.ensures.packets in
    let are : ArePackets packets.0 (take end row) = subst (λ (l : List ℕ). ArePackets packets.0 (take end l)) c.as_slice.ensures.value packets.1 in
    let behind : BeginsWithNone (drop end row) = subst (λ (l : List ℕ). BeginsWithNone (drop end l)) c.as_slice.ensures.value c.whole_packets-end.ensures.behind in
    let after : StandsAfter (drop end row) c.whole_packets-end.result.1 = subst (λ (l : List ℕ). StandsAfter (drop end l) c.whole_packets-end.result.1) c.as_slice.ensures.value c.whole_packets-end.ensures.after in
    let none : take end row ≡ [] = ap (λ (n : ℕ). take n row) c.if-end-eq0.true in
    let all : drop end row ≡ row = ap (λ (n : ℕ). drop n row) c.if-end-eq0.true in
    let got = handed_on c.args.self.now _ old hands.handed row end packets.0 keeps orders
    (c.in_ok-hand_on.ensures.all _ old.segments (old.out ++ hands.handed) orders) (search rules) are behind refl c.in_ok-hand_on.ensures.first
    (ap (λ v. v.items) c.replace-then-end-eq0.ensures.value ∙ sym all) in (
      packets.0,
      subst (ArePackets packets.0) (none ∙ sym (ap (λ v. v.items) c.replace-then-end-eq0.ensures.after ∙ c.new-then-end-eq0.ensures.items)) are,
      got.0,
      got.1,
      got.2,
      subst (λ (l : List ℕ). StandsAfter l c.whole_packets-end.result.1) (sym got.3) after,
    )
