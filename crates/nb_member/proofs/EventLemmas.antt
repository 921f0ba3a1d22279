-- Each event says one thing.
use Rattle.nb_member.proofs.Common.{◌≡◌, ◌==◌, ◌<◌, ℕ, List, [], ◌∷◌, refl, sym, ap, subst, ◌∙◌, arith, ◌≢◌, ◌⊎◌, Bool, true, false, inl, inr, Direct, Error, Query, FragmentParts, core_of, reach, is_first, IsPacket, TableFault, MisplacedFirst, TooLong, IsMisplaced, Passes, Limits, Event, Settings, limits_of, Saying, came, refused, another, clock, Says, misplaced, too_long, Say, HasBytes, refusal, AllByRecursion, cases_lt, false≢true}
use Rattle.nb_datagram.specs.declared.fault.DatagramFault.{DatagramFault}
use Rattle.nb_datagram.specs.Packet.{Packet as AnyPacket}
use Rattle.nb_datagram.specs.DatagramFaults.{PacketFails}
use Rattle.nb_table.specs.declared.fault.TableFault.TheVariants.{FullSource, Full, NoMemory}
use Rattle.nb_member.specs.declared.outcome.Event.TheVariants.{Packet, Tick}
use Rattle.nb_member.specs.declared.outcome.MemberFault.TheVariants as fault
use Rattle.nb_member.specs.Events.{fragment, no_packet, error, query, tick, none, more}
use Rattle.nb_streams.specs.Places.{AreBytes}

-- what the packets in bytes are known to be
pub record PacketsKnown : Type 0 where
  pub one : (bytes : List ℕ) (packet other : AnyPacket) (used behind : ℕ) → IsPacket bytes packet used
      → IsPacket bytes other behind → (packet ≡ other) × (used ≡ behind)
  pub alone : (bytes : List ℕ) (fault : DatagramFault) (packet : AnyPacket) (used : ℕ) → PacketFails bytes fault
      → ¬ IsPacket bytes packet used
  pub one_fault : (bytes : List ℕ) (fault another : DatagramFault) → PacketFails bytes fault
      → PacketFails bytes another → fault ≡ another

-- IsInvalid longest f x: the fragment isn't valid, and x says why
abbrev pub IsInvalid : ℕ → FragmentParts → TableFault → Type 0
IsInvalid longest f MisplacedFirst = IsMisplaced f
IsInvalid longest f TooLong = (is_first f.flags ≡ (f.offset == 0)) × (longest < reach (core_of f))
IsInvalid longest f (FullSource k) = ⊥
IsInvalid longest f (Full k) = ⊥
IsInvalid longest f NoMemory = ⊥

-- then it isn't valid
pub invalid_not : (l : Limits) (f : FragmentParts) (x : TableFault) → IsInvalid l.longest f x → Passes l f → ⊥
invalid_not l f MisplacedFirst i v = i v.placed
invalid_not l f TooLong i v = let past = i.1 in let within = v.short in omega (arith, past, within)
invalid_not l f (FullSource k) i v = i
invalid_not l f (Full k) i v = i
invalid_not l f NoMemory i v = i

-- and for one reason
one_invalid : (longest : ℕ) (f : FragmentParts) (x y : TableFault) → IsInvalid longest f x → IsInvalid longest f y → x ≡ y
one_invalid longest f MisplacedFirst MisplacedFirst i j = refl
one_invalid longest f MisplacedFirst TooLong i j = absurd (i j.0)
one_invalid longest f TooLong MisplacedFirst i j = absurd (j i.0)
one_invalid longest f TooLong TooLong i j = refl
one_invalid longest f (FullSource k) y i j = absurd i
one_invalid longest f (Full k) y i j = absurd i
one_invalid longest f NoMemory y i j = absurd i
one_invalid longest f x (FullSource k) i j = absurd j
one_invalid longest f x (Full k) i j = absurd j
one_invalid longest f x NoMemory i j = absurd j

-- SaysPacket settings moment packet s: what a payload says that begins with this packet
abbrev pub SaysPacket : Settings → ℕ → AnyPacket → Saying → Type 0
SaysPacket settings moment (Direct f) s =
    (Passes (limits_of settings) f × (s ≡ came moment f))
    ⊎ ((x : TableFault) × IsInvalid settings.longest f x × (s ≡ refused (fault.Table x)))
SaysPacket settings moment (Error e) s = s ≡ another
SaysPacket settings moment (Query q) s = s ≡ another

-- SaysOf settings moment payload s: what a payload says, by what it begins with
pub data SaysOf (settings : Settings) (moment : ℕ) (payload : List ℕ) (s : Saying) : Type 0 where
  of_packet : (used : ℕ) (packet : AnyPacket) → IsPacket payload packet used → SaysPacket settings moment packet s
      → SaysOf settings moment payload s
  of_fault : (x : DatagramFault) → PacketFails payload x → s ≡ refused (fault.Packet x (refusal settings payload x))
      → SaysOf settings moment payload s

-- what an event's saying is, by the event
abbrev SaysBy : Settings → Event → Saying → Type 0
SaysBy settings (Packet moment payload) s = SaysOf settings moment payload s
SaysBy settings (Tick now) s = s ≡ clock now

pub says_by : (settings : Settings) (event : Event) (s : Saying) → Says settings event s → SaysBy settings event s
says_by settings _ _ (fragment moment used payload f p v) = of_packet used (Direct f) p (inl (v, refl))
says_by settings _ _ (misplaced moment used payload f p m) = of_packet used (Direct f) p (inr (MisplacedFirst, m, refl))
says_by settings _ _ (too_long moment used payload f p placed past) = of_packet used (Direct f) p (inr (TooLong, (placed, past), refl))
says_by settings _ _ (no_packet moment payload x p) = of_fault x p refl
says_by settings _ _ (error moment used payload e p) = of_packet used (Error e) p refl
says_by settings _ _ (query moment used payload q p) = of_packet used (Query q) p refl
says_by settings _ _ (tick now) = refl

-- a packet says one thing
one_of_packet : (settings : Settings) (moment : ℕ) (packet : AnyPacket) (s t : Saying)
    → SaysPacket settings moment packet s → SaysPacket settings moment packet t → s ≡ t
one_of_packet settings moment (Direct f) s t (inl h) (inl k) = h.1 ∙ sym k.1
one_of_packet settings moment (Direct f) s t (inl h) (inr k) = absurd (invalid_not (limits_of settings) f k.0 k.1 h.0)
one_of_packet settings moment (Direct f) s t (inr h) (inl k) = absurd (invalid_not (limits_of settings) f h.0 h.1 k.0)
one_of_packet settings moment (Direct f) s t (inr h) (inr k) =
    h.2 ∙ (ap (λ (x : TableFault). refused (fault.Table x)) (one_invalid settings.longest f h.0 k.0 h.1 k.1) ∙ sym k.2)
one_of_packet settings moment (Error e) s t h k = h ∙ sym k
one_of_packet settings moment (Query q) s t h k = h ∙ sym k

-- and so does a payload
one_of : PacketsKnown → (settings : Settings) (moment : ℕ) (payload : List ℕ) (s t : Saying)
    → SaysOf settings moment payload s → SaysOf settings moment payload t → s ≡ t
one_of known settings moment payload s t (of_packet u a p h) (of_packet w b q k) =
    one_of_packet settings moment a s t h
    (subst (λ (packet : AnyPacket). SaysPacket settings moment packet t) (sym (known.one payload a b u w p q).0) k)
one_of known settings moment payload s t (of_packet u a p h) (of_fault y q b) = absurd (known.alone payload y a u q p)
one_of known settings moment payload s t (of_fault y p a) (of_packet w b q k) = absurd (known.alone payload y b w p q)
one_of known settings moment payload s t (of_fault y p a) (of_fault other q b) =
    a ∙ (ap (λ (r : DatagramFault). refused (fault.Packet r (refusal settings payload r))) (known.one_fault payload y other p q) ∙ sym b)

one_by : PacketsKnown → (settings : Settings) (event : Event) (s t : Saying) → SaysBy settings event s → SaysBy settings event t → s ≡ t
one_by known settings (Packet moment payload) s t h k = one_of known settings moment payload s t h k
one_by known settings (Tick now) s t h k = h ∙ sym k

-- an event says one thing
pub one_saying : PacketsKnown → (settings : Settings) (event : Event) (s t : Saying) → Says settings event s
    → Says settings event t → s ≡ t
one_saying known settings event s t h k =
    one_by known settings event s t (says_by settings event s h) (says_by settings event t k)

-- what a list says, by its first event
abbrev pub SayBy : Settings → List Event → List Saying → Type 0
SayBy settings [] S = S ≡ []
SayBy settings (event ∷ events) S =
    (s : Saying) × (rest : List Saying) × Says settings event s × Say settings events rest × (S ≡ s ∷ rest)

pub say_by : (settings : Settings) (events : List Event) (S : List Saying) → Say settings events S → SayBy settings events S
say_by settings _ _ none = refl
say_by settings _ _ (more event s events rest h k) = (s, rest, h, k, refl)

-- so events in a row say one thing each
pub one_sayings : PacketsKnown → (settings : Settings) (events : List Event) (S T : List Saying)
    → Say settings events S → Say settings events T → S ≡ T
one_sayings known settings [] S T h k = say_by settings [] S h ∙ sym (say_by settings [] T k)
one_sayings known settings (event ∷ events) S T h k =
    let a = say_by settings (event ∷ events) S h in
    let b = say_by settings (event ∷ events) T k in
    let first = one_saying known settings event a.0 b.0 a.2 b.2 in
    let rest = one_sayings known settings events a.1 b.1 a.3 b.3 in
    a.4 ∙ (ap (λ (s : Saying). s ∷ a.1) first ∙ (ap (λ (r : List Saying). b.0 ∷ r) rest ∙ sym b.4))

-- ---- each event says something

-- bytes begin with a packet, or have a fault
abbrev pub PacketOrFault : Type 0
PacketOrFault = (bytes : List ℕ) → AreBytes bytes →
    ((packet : AnyPacket) × (used : ℕ) × IsPacket bytes packet used) ⊎ ((x : DatagramFault) × PacketFails bytes x)

same_or_not : (a b : Bool) → (a ≡ b) ⊎ (a ≢ b)
same_or_not true true = inl refl
same_or_not true false = inr (λ e. false≢true (sym e))
same_or_not false true = inr (λ e. false≢true e)
same_or_not false false = inl refl

-- a fragment is valid, misplaced or too long
says_fragment : (settings : Settings) (moment used : ℕ) (payload : List ℕ) (f : FragmentParts)
    → IsPacket payload (Direct f) used → (s : Saying) × Says settings (Packet moment payload) s
says_fragment settings moment used payload f p =
    elim (same_or_not (is_first f.flags) (f.offset == 0)) [
      | inr apart ↦ (refused (fault.Table MisplacedFirst), misplaced moment used payload f p apart)
      | inl placed ↦
          elim (cases_lt settings.longest (reach (core_of f))) [
            | inl long ↦ (refused (fault.Table TooLong), too_long moment used payload f p placed long)
            | inr short ↦ (came moment f, fragment moment used payload f p (record { placed = placed; short = short }))
          ]
    ]

says_packet : (settings : Settings) (moment used : ℕ) (payload : List ℕ) (packet : AnyPacket)
    → IsPacket payload packet used → (s : Saying) × Says settings (Packet moment payload) s
says_packet settings moment used payload (Direct f) p = says_fragment settings moment used payload f p
says_packet settings moment used payload (Error e) p = (another, error moment used payload e p)
says_packet settings moment used payload (Query q) p = (another, query moment used payload q p)

-- each event says something
pub each_says : PacketOrFault → (settings : Settings) (event : Event) → HasBytes event → (s : Saying) × Says settings event s
each_says known settings (Packet moment payload) h =
    elim (known payload h) [
      | inl found ↦ says_packet settings moment found.1 payload found.0 found.2
      | inr fails ↦ (
        refused (fault.Packet fails.0 (refusal settings payload fails.0)),
        no_packet moment payload fails.0 fails.1,
      )
    ]
each_says known settings (Tick now) h = (clock now, tick now)

-- and so do events in a row
pub all_say : PacketOrFault → (settings : Settings) (events : List Event) → AllByRecursion HasBytes events
    → (S : List Saying) × Say settings events S
all_say known settings [] h = ([], none)
all_say known settings (event ∷ events) h =
    let first = each_says known settings event h.0 in
    let rest = all_say known settings events h.1 in
    (first.0 ∷ rest.0, more event first.0 events rest.0 first.1 rest.1)
