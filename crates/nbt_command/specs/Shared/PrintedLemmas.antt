-- What is printed of a text, or left of it where the output fails.
use Rattle.std.proofs.Common.{◌≡◌, ◌≢◌, ◌++◌, ℕ, List, Option, refl, sym, subst, Result, Ok, Err, OnOk, OnErr, IfErr}
use Rattle.std.specs.Io.KnownBytes.{Appends, Keeps}
use Rattle.nb_streams.specs.Devices.{AppendsFront}
use Rattle.nb_streams.specs.DeviceFacts.{Appends-more, front_after, front_wider}
use Rattle.nbt_command.specs.declared.fault.Fault.{Fault}
use Rattle.nbt_command.specs.declared.fault.Fault.TheVariants.{Read, Write, Memory}
use Rattle.nbt_command.specs.Printing.{PrintsText}

-- a text that is written at once
pub prints_text : (text : List ℕ) (old new : Option (List ℕ)) (r : Result (Unit {0}) Fault) → OnOk r (Appends old new text) → IfErr r (λ fault. fault ≡ Write)
    → OnErr r (AppendsFront old new text) → PrintsText text old new r
prints_text text old new (Ok done) whole is front = whole
prints_text text old new (Err fault) whole is front = subst (λ (f : Fault). PrintsText text old new (Err f)) (sym is) front

-- another form of the text
pub prints_as : (text told : List ℕ) (old new : Option (List ℕ)) (r : Result (Unit {0}) Fault) → text ≡ told → PrintsText text old new r → PrintsText told old new r
prints_as text told old new r is p = subst (λ (t : List ℕ). PrintsText t old new r) is p

-- a text that is cut in its front
pub cut_in_front : (front rest : List ℕ) (old new : Option (List ℕ)) (fault : Fault) → AppendsFront old new front → fault ≡ Write
    → PrintsText (front ++ rest) old new (Err fault)
cut_in_front front rest old new fault cut is =
    subst (λ (f : Fault). PrintsText (front ++ rest) old new (Err f)) (sym is) (front_wider old new front rest cut)

-- a text whose front is written
pub prints_rest : (front rest : List ℕ) (old mid new : Option (List ℕ)) (r : Result (Unit {0}) Fault) → Appends old mid front → PrintsText rest mid new r
    → IfErr r (λ fault. fault ≡ Write) → PrintsText (front ++ rest) old new r
prints_rest front rest old mid new (Ok done) before after is = Appends-more old mid new front rest before after
prints_rest front rest old mid new (Err fault) before after is =
    let cut : PrintsText rest mid new (Err Write) = subst (λ (f : Fault). PrintsText rest mid new (Err f)) is after in
    subst (λ (f : Fault). PrintsText (front ++ rest) old new (Err f)) (sym is) (front_after old mid new front rest before cut)

-- ---- what a text that is printed leaves

pub prints_kept : (text : List ℕ) (old new : Option (List ℕ)) (r : Result (Unit {0}) Fault) → PrintsText text old new r → IfErr r (λ fault. fault ≢ Write → Keeps old new)
prints_kept text old new (Ok done) p = tt
prints_kept text old new (Err Write) p = λ other. absurd (other refl)
prints_kept text old new (Err Memory) p = λ other. p
prints_kept text old new (Err _) p = absurd p

pub prints_front : (text : List ℕ) (old new : Option (List ℕ)) (r : Result (Unit {0}) Fault) → PrintsText text old new r → IfErr r (λ fault. fault ≡ Write → AppendsFront old new text)
prints_front text old new (Ok done) p = tt
prints_front text old new (Err Write) p = λ write. p
prints_front text old new (Err Memory) p = λ write. absurd (cc write)
prints_front text old new (Err _) p = absurd p

-- nothing is read then
pub prints_uncut : (X : Type 0) (text : List ℕ) (old new : Option (List ℕ)) (r : Result (Unit {0}) Fault) → PrintsText text old new r → IfErr r (λ fault. fault ≡ Read → X)
prints_uncut X text old new (Ok done) p = tt
prints_uncut X text old new (Err Write) p = λ read. absurd (cc read)
prints_uncut X text old new (Err Memory) p = λ read. absurd (cc read)
prints_uncut X text old new (Err _) p = absurd p
