-- What was taken from a reader when reading a packet stopped.
use Rattle.std.proofs.Common.{◌≡◌, ℕ, ◌+◌, List, ◌++◌, length, take, Option, sym, subst, arith, length-append, ◌<◌, ◌≤◌, ◌-◌, refl, ◌∙◌, ap, zero, suc}
use Rattle.std.proofs.lemmas.List.{length-take-le, take_at, take_all, take-append-le}
use Rattle.std.specs.Io.KnownBytes.{Consumes}
use Rattle.std.proofs.KnownBytes.{Consumes-trans}
use Rattle.nb_session.specs.declared.fault.SessionFault.{SessionFault}
use Rattle.nb_session.specs.declared.parsing.Header.{Header}
use Rattle.nb_session.specs.declared.packet.Kind.{Kind}
use Rattle.nb_session.specs.declared.packet.Kind.TheVariants.{Request}
use Rattle.nb_session.specs.declared.parsing.Parsed.TheVariants.{Refused}
use Rattle.nb_session.specs.Code.{TakesPart}
use Rattle.nb_session.specs.Header.{HasHeader, IsGood, body_length, packet_length}
use Rattle.nb_session.specs.PacketReading.{IsEarliest}
use Rattle.nb_session.specs.Parsing.{Lacks, HeaderFails, RequestFails, Parses, header_fails, body_lacks, body_fails}
use Rattle.nb_session.proofs.HeaderLemmas.{header_in_all}
use Rattle.nb_session.proofs.ParsingLemmas.{short_lacks, packet_judged, header_judged}
use Rattle.std.proofs.Math.Seq.{take-append-add}
use Rattle.nb_streams.specs.declared.counted.Told.TheVariants.{Bytes}
use Rattle.nb_streams.specs.Counted.{Counts, with_call}
use borrow.Rule.Slice.PartMut.{post_of, put_mid}

-- so many bytes were taken, and lack some
pub record TakesShort (old new : Option (List ℕ)) (count : ℕ) : Type 0 where
  pub bytes : List ℕ
  pub consumes : Consumes old new bytes
  pub long : length bytes ≡ count
  pub lacks : Lacks bytes

-- a part of the header
pub short_header : (old new : Option (List ℕ)) (buf : List ℕ) (count : ℕ) → length buf ≡ 4 → TakesPart old new buf count → TakesShort old new count
short_header old new buf count four part =
    let same : length (take count buf) ≡ count = length-take-le count buf (omega (arith, part.0)) in
    record { bytes = take count buf; consumes = part.1; long = same; lacks = short_lacks (take count buf) (omega (arith, same, four, part.0)) }

-- bytes after a header leave it the header
header_before : (head rest : List ℕ) (h : Header) → length head ≡ 4 → HasHeader head h → HasHeader (head ++ rest) h
header_before head rest h four has = header_in_all (head ++ rest) 4 h (omega arith) (subst (λ (b : List ℕ). HasHeader b h) (sym (take_at head rest 4 four)) has)

-- the header, and a part of the body
pub short_body : (old mid new : Option (List ℕ)) (head : List ℕ) (h : Header) (k : Kind) (buf : List ℕ) (count : ℕ) → length head ≡ 4 → HasHeader head h → IsGood h k →
    length buf ≡ body_length h → Consumes old mid head → TakesPart mid new buf count → TakesShort old new (4 + count)
short_body old mid new head h k buf count four has good body took part =
    let same : length (take count buf) ≡ count = length-take-le count buf (omega (arith, part.0)) in
    let whole : length (head ++ take count buf) ≡ 4 + count = omega (arith, length-append head (take count buf), same, four) in
    record {
      bytes = head ++ take count buf;
      consumes = Consumes-trans old mid new head (take count buf) took part.1;
      long = whole;
      lacks = (_, body_lacks h k (header_before head (take count buf) h four has) good (omega (arith, whole, body, part.0)));
    }

-- a header that fails is judged by its last byte
pub header_refused : (bytes : List ℕ) (h : Header) (f : SessionFault) → length bytes ≡ 4 → HasHeader bytes h → HeaderFails h f → Parses bytes (Refused f) × IsEarliest bytes
header_refused bytes h f four has fails = (header_fails h f has fails, header_judged bytes four)

-- and so is a request that fails
pub request_refused : (bytes : List ℕ) (h : Header) (f : SessionFault) → HasHeader bytes h → IsGood h Request → length bytes ≡ packet_length h → RequestFails bytes f →
    Parses bytes (Refused f) × IsEarliest bytes
request_refused bytes h f has good same fails = (
  body_fails h f has good (omega (arith, same)) (subst (λ (b : List ℕ). RequestFails b f) (sym (take_all (packet_length h) bytes (omega (arith, same)))) fails),
  packet_judged bytes h Request has good same,
)

-- ---- What filling a buffer keeps from turn to turn.

pub record IsFilling (before now : Option (List ℕ)) (old new : Counts) (buf : List ℕ) (filled start interrupts : ℕ) : Type 0 where
  pub within : filled ≤ length buf
  pub patient : interrupts < 1024
  pub later : start ≤ interrupts
  pub consumes : Consumes before now (take filled buf)
  pub failed : new.failed ≡ old.failed
  pub empty : new.empty ≡ old.empty
  pub interrupted : new.interrupted + start ≡ old.interrupted + interrupts
  pub calls : new.calls + start ≤ old.calls + filled + interrupts

-- the front of a buffer whose part from a on was written
take-written : (a k n : ℕ) (xs ys : List ℕ) → a ≤ length xs → n ≤ length ys → take (a + n) (put_mid a k xs ys) ≡ take a xs ++ take n ys
take-written a k n xs ys h m =
    ap (λ (b : ℕ). take (b + n) (put_mid a k xs ys)) (sym (length-take-le a xs h))
    ∙ take-append-add (take a xs) (ys ++ post_of a k xs) n
    ∙ ap (λ r. take a xs ++ r) (take-append-le n ys (post_of a k xs) m)

with_bytes : (mid : Counts) (n : ℕ) → 0 < n → with_call mid (Bytes n) ≡ record mid { calls = mid.calls + 1 }
with_bytes mid zero h = absurd (omega arith)
with_bytes mid (suc n) h = refl

-- a turn that got some bytes
pub filled_more : (known before now : Option (List ℕ)) (old mid new : Counts) (buf : List ℕ) (filled start interrupts k n : ℕ) (part : List ℕ) →
    IsFilling known before old mid buf filled start interrupts → k ≡ length buf - filled → length part ≡ k → 0 < n → n ≤ length part → Consumes before now (take n part) → new ≡ with_call mid (Bytes n) →
    IsFilling known now old new (put_mid filled k buf part) (filled + n) start interrupts
filled_more known before now old mid new buf filled start interrupts k n part f ke l p m took count =
    let is = count ∙ with_bytes mid n p in
    let failed : new.failed ≡ mid.failed = ap (λ (c : Counts). c.failed) is in
    let empty : new.empty ≡ mid.empty = ap (λ (c : Counts). c.empty) is in
    let interrupted : new.interrupted ≡ mid.interrupted = ap (λ (c : Counts). c.interrupted) is in
    let calls : new.calls ≡ mid.calls + 1 = ap (λ (c : Counts). c.calls) is in
    record {
      within = omega (arith, f.within, length-append (take filled buf) (part ++ post_of filled k buf), length-append part (post_of filled k buf), length-take-le filled buf f.within);
      patient = f.patient;
      later = f.later;
      consumes = subst (Consumes known now) (sym (take-written filled k n buf part f.within m)) (Consumes-trans known before now _ _ f.consumes took);
      failed = failed ∙ f.failed;
      empty = empty ∙ f.empty;
      interrupted = omega (arith, f.interrupted);
      calls = omega (arith, f.calls);
    }
