-- What reading and writing some bytes, and all of them, keeps from turn to turn.
use Rattle.std.proofs.Common.{◌≡◌, ◌≤◌, ◌+◌, ◌-◌, ◌++◌, ℕ, List, length, take, drop, Option, sym, subst, arith, ap}
use Rattle.std.specs.Io.KnownBytes.{Appends, Keeps, Consumes}
use Rattle.std.proofs.lemmas.Grind.{flat_map-append}
use Rattle.std.proofs.lemmas.List.{append_assoc, take_all, take-append-drop, length-drop}
use Rattle.std.proofs.Math.Seq.{take-add}
use Rattle.nb_streams.specs.declared.limits.TheConstants.{MAX_INTERRUPTS}
use Rattle.nb_streams.specs.Counted.{Counts}
use Rattle.nb_streams.specs.Devices.{AppendsFront, GrowTo}
use Rattle.nb_streams.specs.Hexadecimal.{digits_text}
use Rattle.nb_streams.specs.Hexadecimal.{digits_of}
pub use Rattle.nb_streams.specs.DeviceFacts.{Keeps-same, Appends-nil, Appends-more, Appends-kept, front_wider, front_after, fails_from, grows_on, Consumes-nil, Consumes-more, Consumes-kept, cut_from}

-- so many calls were interrupted, and nothing else came of them
pub record IsWaiting (before now : Option (List ℕ)) (old new : Counts) (interrupts : ℕ) : Type 0 where
  pub patient : interrupts ≤ MAX_INTERRUPTS
  pub kept : Keeps before now
  pub failed : old.failed ≤ new.failed
  pub empty : old.empty ≤ new.empty
  pub interrupted : old.interrupted + interrupts ≤ new.interrupted

-- a front of the bytes is written
pub record IsWriting (before now : Option (List ℕ)) (old new : Counts) (bytes : List ℕ) (written : ℕ) : Type 0 where
  pub within : written ≤ length bytes
  pub appends : Appends before now (take written bytes)
  pub grow : GrowTo old new

-- a turn that took some bytes
pub wrote_more : (before mid_known now : Option (List ℕ)) (old mid new : Counts) (bytes : List ℕ) (written n : ℕ) →
    IsWriting before mid_known old mid bytes written → n ≤ length (take (length bytes - written) (drop written bytes)) →
    Appends mid_known now (take n (take (length bytes - written) (drop written bytes))) → GrowTo mid new →
    IsWriting before now old new bytes (written + n)
wrote_more before mid_known now old mid new bytes written n w m took g =
    let size : length (drop written bytes) ≡ length bytes - written = length-drop written bytes in
    let part : take (length bytes - written) (drop written bytes) ≡ drop written bytes = take_all _ (drop written bytes) (omega (arith, size)) in
    record {
      within = omega (arith, w.within, size, ap length part);
      appends = rw (take-add written n bytes, ← part) (Appends-more before mid_known now _ _ w.appends took);
      grow = grows_on old mid new w.grow g;
    }

-- the digits of all but the rest of the bytes are written
pub record IsWritingDigits (before now : Option (List ℕ)) (old new : Counts) (bytes rest : List ℕ) : Type 0 where
  pub written : List ℕ
  pub whole : written ++ digits_text rest ≡ digits_text bytes
  pub appends : Appends before now written
  pub grow : GrowTo old new

digits_split : (n : ℕ) (rest part behind : List ℕ) → part ≡ take n rest → behind ≡ drop n rest → digits_text part ++ digits_text behind ≡ digits_text rest
digits_split n rest part behind front back =
    rw (front, back, sym (flat_map-append digits_of (take n rest) (drop n rest))) (ap digits_text (take-append-drop n rest))

-- a turn that wrote a part's digits
pub wrote_part : (before mid_known now : Option (List ℕ)) (old mid new : Counts) (bytes rest part behind : List ℕ) (n : ℕ) →
    IsWritingDigits before mid_known old mid bytes rest → part ≡ take n rest → behind ≡ drop n rest →
    Appends mid_known now (digits_text part) → GrowTo mid new → IsWritingDigits before now old new bytes behind
wrote_part before mid_known now old mid new bytes rest part behind n w front back took g = record {
  written = w.written ++ digits_text part;
  whole = rw (append_assoc w.written (digits_text part) (digits_text behind), digits_split n rest part behind front back) w.whole;
  appends = Appends-more before mid_known now w.written (digits_text part) w.appends took;
  grow = grows_on old mid new w.grow g;
}

-- a turn that wrote a front of a part's digits
pub wrote_front : (before mid_known now : Option (List ℕ)) (old mid : Counts) (bytes rest part behind : List ℕ) (n : ℕ) →
    IsWritingDigits before mid_known old mid bytes rest → part ≡ take n rest → behind ≡ drop n rest →
    AppendsFront mid_known now (digits_text part) → AppendsFront before now (digits_text bytes)
wrote_front before mid_known now old mid bytes rest part behind n w front back took =
    let some = front_after before mid_known now w.written (digits_text part ++ digits_text behind) w.appends
    (front_wider mid_known now (digits_text part) (digits_text behind) took) in
    subst (AppendsFront before now) w.whole (subst (λ digits. AppendsFront before now (w.written ++ digits)) (digits_split n rest part behind front back) some)

-- a front of the last digits
pub wrote_last_front : (before mid_known now : Option (List ℕ)) (old mid : Counts) (bytes rest : List ℕ) → IsWritingDigits before mid_known old mid bytes rest →
    AppendsFront mid_known now (digits_text rest) → AppendsFront before now (digits_text bytes)
wrote_last_front before mid_known now old mid bytes rest w took =
    subst (AppendsFront before now) w.whole (front_after before mid_known now w.written (digits_text rest) w.appends took)

-- these bytes were read
pub record IsReading (before now : Option (List ℕ)) (old new : Counts) (bytes : List ℕ) : Type 0 where
  pub consumes : Consumes before now bytes
  pub grow : GrowTo old new
