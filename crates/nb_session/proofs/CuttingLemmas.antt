-- Bytes are cut into packets in one way, and a stream cuts what is fed to it so.
use Rattle.std.proofs.Common.{◌≡◌, ℕ, List, [], ◌∷◌, ◌++◌, length, drop, refl, ap, sym, subst, ◌∙◌, append_assoc, append-nil, Ok, Err}
use Rattle.std.proofs.lemmas.List.{drop_at}
use Rattle.nb_session.specs.declared.parsing.Parsed.TheVariants.{Whole, More as more_parsed, Refused}
use Rattle.nb_session.specs.declared.stream.FeedFault.TheVariants.{Failed as failed_feed, NoMemory}
use Rattle.nb_session.specs.declared.stream.Next.TheVariants.{Packet as taken_packet, More, Failed}
use Rattle.nb_session.specs.Cutting.{ArePackets, no_packet, one_more, BeginsWithNone, IsCut, History, begun, fed_on, asked}
use Rattle.nb_session.specs.Packet.{Packet, IsPacket}
use Rattle.nb_session.specs.Parsing.{Parses}
use Rattle.nb_session.specs.Stream.{StreamValue}
use Rattle.nb_session.proofs.ParsingLemmas.{packet_parses, one_answer}

-- ---- one cut

-- a packet in front of bytes stands at their front
stands_first : (p : Packet) (b r rest : List ℕ) → IsPacket p b → Parses ((b ++ r) ++ rest) (Whole p (length b))
stands_first p b r rest is = subst (λ (x : List ℕ). Parses x (Whole p (length b))) (sym (append_assoc b r rest)) (packet_parses p b (r ++ rest) is)

same_cut : (ps qs : List Packet) (f g rest other : List ℕ) → ArePackets ps f → ArePackets qs g → f ++ rest ≡ g ++ other → BeginsWithNone rest → BeginsWithNone other →
    (ps ≡ qs) × (rest ≡ other)
same_cut ps qs f g rest other no_packet no_packet e none never = (refl, e)
same_cut ps qs f g rest other no_packet (one_more q qs' c s is more) e none never =
    absurd (none q (length c) (subst (λ (x : List ℕ). Parses x (Whole q (length c))) (sym e) (stands_first q c s other is)))
same_cut ps qs f g rest other (one_more p ps' b r is more) no_packet e none never =
    absurd (never p (length b) (subst (λ (x : List ℕ). Parses x (Whole p (length b))) e (stands_first p b r rest is)))
same_cut ps qs f g rest other (one_more p ps' b r is more) (one_more q qs' c s was others) e none never =
    let answer : Whole p (length b) ≡ Whole q (length c) = one_answer ((c ++ s) ++ other) (Whole p (length b)) (Whole q (length c)) (subst (λ (x : List ℕ). Parses x (Whole p (length b))) e (stands_first p b r rest is)) (stands_first q c s other was) in
    let packet : p ≡ q = cc in
    let long : length b ≡ length c = cc in
    let front : b ++ (r ++ rest) ≡ c ++ (s ++ other) = sym (append_assoc b r rest) ∙ e ∙ append_assoc c s other in
    let behind : r ++ rest ≡ s ++ other =
    sym (drop_at b (r ++ rest) (length c) long) ∙ ap (λ (x : List ℕ). drop (length c) x) front ∙ drop_at c (s ++ other) (length c) refl in
    let tail = same_cut ps' qs' r s rest other more others behind none never in
    (cc (packet, tail.0), tail.1)

pub one_cut : (bytes : List ℕ) (ps qs : List Packet) (rest other : List ℕ) → IsCut bytes ps rest → IsCut bytes qs other → (ps ≡ qs) × (rest ≡ other)
one_cut bytes ps qs rest other a b = same_cut ps qs a.front b.front rest other a.there b.there (sym a.exact ∙ b.exact) a.behind b.behind

-- ---- what a stream hands out

packets_joined : (ps qs : List Packet) (f g : List ℕ) → ArePackets ps f → ArePackets qs g → ArePackets (ps ++ qs) (f ++ g)
packets_joined ps qs f g no_packet b = b
packets_joined ps qs f g (one_more p ps' x y is more) b =
    subst (λ (bytes : List ℕ). ArePackets (p ∷ (ps' ++ qs)) bytes) (sym (append_assoc x y g)) (one_more p (ps' ++ qs) x (y ++ g) is (packets_joined ps' qs y g more b))

single : (p : Packet) (bytes : List ℕ) → IsPacket p bytes → ArePackets (p ∷ []) bytes
single p bytes is = subst (ArePackets (p ∷ [])) (append-nil bytes) (one_more p [] bytes [] is no_packet)

-- the bytes of the packets handed out, and then those held, are those that were fed
pub record Kept (fed : List ℕ) (packets : List Packet) (held : List ℕ) : Type 0 where
  pub front : List ℕ
  pub there : ArePackets packets front
  pub exact : fed ≡ front ++ held

held_of : (a b : StreamValue) → a ≡ b → a.held ≡ b.held
held_of a b e = ap (λ (s : StreamValue). s.held) e

pub kept : (fed : List ℕ) (packets : List Packet) (s : StreamValue) → History fed packets s → Kept fed packets s.held
kept fed packets s begun = record { front = []; there = no_packet; exact = refl }
kept fed packets s (fed_on was ps old new piece (Ok u) h feeds) =
    let k = kept was ps old h in
    record {
      front = k.front;
      there = k.there;
      exact = ap (λ (x : List ℕ). x ++ piece) k.exact ∙ append_assoc k.front old.held piece ∙ ap (λ (x : List ℕ). k.front ++ x) (sym (held_of new _ feeds.1));
    }
kept fed packets s (fed_on was ps old new piece (Err (failed_feed fault)) h feeds) =
    subst (λ (x : List ℕ). Kept x ps new.held) (sym (append-nil was)) (subst (Kept was ps) (sym (held_of new _ feeds.1)) (kept was ps old h))
kept fed packets s (fed_on was ps old new piece (Err NoMemory) h feeds) =
    subst (λ (x : List ℕ). Kept x ps new.held) (sym (append-nil was)) (subst (Kept was ps) (sym (held_of new _ feeds.1)) (kept was ps old h))
kept fed packets s (asked was ps more old new (taken_packet taken) h takes out) =
    let k = kept was ps old h in
    let one : ArePackets more taken.bytes.now = subst (λ (x : List Packet). ArePackets x taken.bytes.now) (sym out.1) (single out.0 taken.bytes.now out.2) in
    record {
      front = k.front ++ taken.bytes.now;
      there = packets_joined ps more k.front taken.bytes.now k.there one;
      exact = k.exact ∙ ap (λ (x : List ℕ). k.front ++ x) takes.2 ∙ sym (append_assoc k.front taken.bytes.now new.held);
    }
kept fed packets s (asked was ps more old new (More needed) h takes out) =
    subst (λ (x : List Packet). Kept was x new.held) (sym (ap (λ (x : List Packet). ps ++ x) out ∙ append-nil ps)) (subst (Kept was ps) (sym (held_of new _ takes.2)) (kept was ps old h))
kept fed packets s (asked was ps more old new (Failed fault) h takes out) =
    subst (λ (x : List Packet). Kept was x new.held) (sym (ap (λ (x : List Packet). ps ++ x) out ∙ append-nil ps)) (subst (Kept was ps) (sym (held_of new _ takes.0)) (kept was ps old h))

-- bytes that lack some, or have a fault, begin with no whole packet
pub lacking_none : (bytes : List ℕ) (needed : ℕ) → Parses bytes (more_parsed needed) → BeginsWithNone bytes
lacking_none bytes needed stands packet used stood = let same = one_answer bytes (more_parsed needed) (Whole packet used) stands stood in absurd (cc)

pub failing_none : (bytes : List ℕ) (fault : _) → Parses bytes (Refused fault) → BeginsWithNone bytes
failing_none bytes fault stands packet used stood = let same = one_answer bytes (Refused fault) (Whole packet used) stands stood in absurd (cc)
