-- The words of a line, and what stands between spaces.
use Rattle.nb_capture.proofs.Common.{◌≡◌, ◌≢◌, ℕ, zero, suc, ◌+◌, ◌<◌, ◌==◌, Bool, true, false, not, List, [], ◌∷◌, ◌++◌, get_or, refl, sym, ap, ◌∙◌, arith, Err, Some, None, ◌⊎◌, inl, inr, IsTrue, Contains, codes, slice_get, IsAnyAnswer, list_all, digit_value, is_ascii_digit, AllDigits, false≢true, and_parts, Decides-eqb, nat_tests, contains_decides, Decides-contains, Contains-append_right, Contains-append_cases, Packet, Tick, line_fault_of, PortText, names, datagrams, sessions, MomentText, HasWords, packet, tick, Blank, comment, ReadsBy, NeedsMemory, for_payload, DataText, ReadsData}
pub use Rattle.nb_streams.specs.LineFacts.{one_split}
use Rattle.nb_capture.specs.declared.line.Line.{Line}
use Rattle.nb_capture.specs.declared.fault.LineFault.{LineFault}
use Rattle.nb_streams.specs.declared.hexadecimal.DigitsFault.{DigitsFault}
use Rattle.nb_streams.specs.declared.hexadecimal.DigitsFault.TheVariants.{BadDigits, NoMemory}
use Rattle.nb_capture.specs.Capture.{nothing}

-- ---- comments

-- a byte is in a list of one only where it is that one
not_single : (c x : ℕ) → c ≢ x → ¬ Contains (c ∷ []) x
not_single c x differ (zero, below, is) = differ is
not_single c x differ (suc k, below, is) = absurd (omega arith)

-- a byte that isn't a list's first one is among the others
pub Contains-behind : (c x : ℕ) (xs : List ℕ) → c ≢ x → Contains (c ∷ xs) x → Contains xs x
Contains-behind c x xs differ h =
    elim (Contains-append_cases (c ∷ []) xs x h) [
      | inl here ↦ absurd (not_single c x differ here)
      | inr behind ↦ behind
    ]

pub Contains-before : (c x : ℕ) (xs : List ℕ) → Contains xs x → Contains (c ∷ xs) x
Contains-before c x xs h = Contains-append_right (c ∷ []) xs x h

-- a line without a first byte is blank
pub blank_if_empty : (line : List ℕ) → slice_get line 0 ≡ None → Blank line
blank_if_empty [] h = nothing
blank_if_empty (c ∷ line) h = absurd (cc)

-- a blank line is empty, or a comment
pub Blank-cases : (line : List ℕ) → Blank line
    → (line ≡ []) ⊎ ((text : List ℕ) × (line ≡ 35 ∷ text) × (¬ Contains text 10))
Blank-cases _ nothing = inl refl
Blank-cases _ (comment text h) = inr (text, refl, h)

-- whether a line that begins with `#` is blank, by the test for a line feed
pub comment_test : (line : List ℕ) (r : Bool) → slice_get line 0 ≡ Some 35
    → IsAnyAnswer (λ y b. (y == 10) ≡ b) line r
    → (IsTrue (not r) → Blank line) × (Blank line → IsTrue (not r))
comment_test [] r h any = absurd (cc)
comment_test (c ∷ text) true h any =
    let has = Decides-contains (c ∷ text) 10 true (contains_decides ◌==◌ Decides-eqb (c ∷ text) 10 true any) in
    let is : c ≡ 35 = cc in
    let feed = Contains-behind c 10 text (omega (arith, is)) (has.0 refl) in (
      λ t. absurd (cc),
      λ blank. elim (Blank-cases (c ∷ text) blank) [
        | inl none ↦ absurd (cc)
        | inr some ↦
            let same : text ≡ some.0 = cc in
            absurd (some.2 (rw same at feed))
      ],
    )
comment_test (c ∷ text) false h any =
    let has = Decides-contains (c ∷ text) 10 false (contains_decides ◌==◌ Decides-eqb (c ∷ text) 10 false any) in
    let is : c ≡ 35 = cc in
    let no : ¬ Contains text 10 = λ feed. false≢true (has.1 (Contains-before c 10 text feed)) in
    (λ _. rw is (comment text no), λ _. refl)

-- ---- words between spaces

-- the space is no digit
space_no_digit : (c : ℕ) → c ≡ 32 → digit_value c < 10 → ⊥
space_no_digit c e h = grind (arith, nat_tests)

-- digits have no space among them
digits_no_space : (text : List ℕ) → AllDigits 10 text → ¬ Contains text 32
digits_no_space [] h n = absurd (omega (arith, n.1))
digits_no_space (c ∷ text) h n =
    let differ : c ≢ 32 = λ e. space_no_digit c e h.0 in
    digits_no_space text h.1 (Contains-behind c 32 text differ n)

-- neither has a port's word
pub port_no_space : (port : ℕ) (text : List ℕ) → PortText port text → ¬ Contains text 32
port_no_space _ _ names n = digits_no_space (codes "137") (omega arith, (omega arith, (omega arith, tt))) n
port_no_space _ _ datagrams n = digits_no_space (codes "138") (omega arith, (omega arith, (omega arith, tt))) n
port_no_space _ _ sessions n = digits_no_space (codes "139") (omega arith, (omega arith, (omega arith, tt))) n

-- what the words after a port's stand for
pub record IsPacket (port : ℕ) (words : List ℕ) (value : Line) : Type 0 where
  pub moment : ℕ
  pub payload : List ℕ
  pub moment_text : List ℕ
  pub payload_text : List ℕ
  pub has_moment : MomentText moment moment_text
  pub has_payload : DataText payload payload_text
  pub words_are : words ≡ moment_text ++ 32 ∷ payload_text
  pub value_is : value ≡ Packet port moment payload

-- what a tick's digits stand for
pub record IsTick (line : List ℕ) (value : Line) : Type 0 where
  pub now : ℕ
  pub text : List ℕ
  pub has_moment : MomentText now text
  pub line_is : line ≡ codes "tick" ++ 32 ∷ text
  pub value_is : value ≡ Tick now

-- a packet's words with the line that they stand in
pub record IsPacketLine (line : List ℕ) (value : Line) : Type 0 where
  pub port : ℕ
  pub port_text : List ℕ
  pub words : List ℕ
  pub has_port : PortText port port_text
  pub has_words : IsPacket port words value
  pub line_is : line ≡ port_text ++ 32 ∷ words

-- a line that says something is a packet's or a tick's
pub Says-cases : (line : List ℕ) (value : Line) → HasWords line value → IsPacketLine line value ⊎ IsTick line value
Says-cases _ _ (packet port moment payload port_text moment_text payload_text p m q) =
    inl (record {
      port = port;
      port_text = port_text;
      words = moment_text ++ 32 ∷ payload_text;
      has_port = p;
      has_words = record {
        moment = moment;
        payload = payload;
        moment_text = moment_text;
        payload_text = payload_text;
        has_moment = m;
        has_payload = q;
        words_are = refl;
        value_is = refl;
      };
      line_is = refl;
    })
Says-cases _ _ (tick now text m) =
    inr (record { now = now; text = text; has_moment = m; line_is = refl; value_is = refl })

-- a port by its word's last digit
port_is : (port : ℕ) (text : List ℕ) → PortText port text → port ≡ 82 + get_or text 2 0
port_is _ _ names = refl
port_is _ _ datagrams = refl
port_is _ _ sessions = refl

-- the word of one port is that of no other
one_port : (text other_text : List ℕ) (port other : ℕ) → PortText port text → PortText other other_text
    → text ≡ other_text → port ≡ other
one_port text other_text port other p q e =
    port_is port text p ∙ ap (λ (t : List ℕ). 82 + get_or t 2 0) e ∙ sym (port_is other other_text q)

-- `tick` is no port's word
tick_no_port : (port : ℕ) (text : List ℕ) → PortText port text → text ≢ codes "tick"
tick_no_port _ _ names e = absurd (cc)
tick_no_port _ _ datagrams e = absurd (cc)
tick_no_port _ _ sessions e = absurd (cc)

pub tick_no_space : ¬ Contains (codes "tick") 32
tick_no_space (k, below, is) = absurd (grind (arith, nat_tests))

-- moments have no space among them
pub moment_no_space : (moment : ℕ) (text : List ℕ) → MomentText moment text → ¬ Contains text 32
moment_no_space moment text h = digits_no_space text h.digits.1

-- after a port's word and a space stand a packet's words
pub packet_behind : (port : ℕ) (text words : List ℕ) (value : Line) → PortText port text
    → HasWords (text ++ 32 ∷ words) value → IsPacket port words value
packet_behind port text words value p says =
    let no_space = port_no_space port text p in
    elim (Says-cases (text ++ 32 ∷ words) value says) [
      | inl line ↦
          let parts = one_split 32 text words line.port_text line.words no_space (port_no_space line.port line.port_text line.has_port) line.line_is in
          let same = one_port text line.port_text port line.port p line.has_port parts.0 in
          rw (same, parts.1) line.has_words
      | inr line ↦
          let parts = one_split 32 text words (codes "tick") line.text no_space tick_no_space line.line_is in
          absurd (tick_no_port port text p parts.0)
    ]

-- after `tick` and a space stands a moment
pub tick_behind : (digits : List ℕ) (value : Line) → HasWords (codes "tick" ++ 32 ∷ digits) value
    → (now : ℕ) × MomentText now digits × (value ≡ Tick now)
tick_behind digits value says =
    elim (Says-cases (codes "tick" ++ 32 ∷ digits) value says) [
      | inl line ↦
          let parts = one_split 32 line.port_text line.words (codes "tick") digits (port_no_space line.port line.port_text line.has_port) tick_no_space (sym line.line_is) in
          absurd (tick_no_port line.port line.port_text line.has_port parts.0)
      | inr line ↦
          let parts = one_split 32 (codes "tick") digits (codes "tick") line.text tick_no_space tick_no_space line.line_is in
          (line.now, rw parts.1 line.has_moment, line.value_is)
    ]

-- a packet's words begin with a moment and a space
pub packet_at_space : (port : ℕ) (words front behind : List ℕ) (value : Line) → IsPacket port words value
    → words ≡ front ++ 32 ∷ behind → ¬ Contains front 32
    → (moment : ℕ) × (payload : List ℕ) × MomentText moment front × DataText payload behind × (value ≡ Packet port moment payload)
packet_at_space port words front behind value h e no_space =
    let parts = one_split 32 front behind h.moment_text h.payload_text no_space (moment_no_space h.moment h.moment_text h.has_moment) (sym e ∙ h.words_are) in
    (h.moment, h.payload, rw parts.0 h.has_moment, rw parts.1 h.has_payload, h.value_is)

-- a packet's words have a space among them
pub packet_has_space : (port : ℕ) (words : List ℕ) (value : Line) → IsPacket port words value → Contains words 32
packet_has_space port words value h =
    rw h.words_are (Contains-append_right h.moment_text (32 ∷ h.payload_text) 32 (zero, omega arith, refl))

-- where the payload's word is refused, so is the line
pub payload_refused : (port moment : ℕ) (text words front behind : List ℕ) (refused : DigitsFault) (fault : LineFault) → fault ≡ line_fault_of refused
    → PortText port text → words ≡ front ++ 32 ∷ behind → ¬ Contains front 32 → MomentText moment front → ReadsData behind (Err refused)
    → ReadsBy (HasWords (text ++ 32 ∷ words)) NeedsMemory (Err fault)
payload_refused port moment text words front behind BadDigits fault is p e no_space m none =
    rw is (λ value says.
    let parts = packet_at_space port words front behind value (packet_behind port text words value p says) e no_space in
    none parts.1 parts.3)
payload_refused port moment text words front behind NoMemory fault is p e no_space m some =
    rw (is, e) (Packet port moment some.0, packet port moment some.0 text front behind p m some.1, for_payload port moment some.0 some.2)

-- ---- decimal digits: tests of them

digit_at : (c : ℕ) → is_ascii_digit c ≡ true → digit_value c < 10
digit_at c h = grind (arith, nat_tests)

at_digit : (c : ℕ) → digit_value c < 10 → is_ascii_digit c ≡ true
at_digit c h = grind (arith, nat_tests)

-- a text of bytes that pass the test is digits
pub AllDigits-from_test : (text : List ℕ) → list_all is_ascii_digit text ≡ true → AllDigits 10 text
AllDigits-from_test [] h = tt
AllDigits-from_test (c ∷ cs) h =
    let parts = and_parts (is_ascii_digit c) (list_all is_ascii_digit cs) h in
    (digit_at c parts.0, AllDigits-from_test cs parts.1)

-- digits pass the test
pub test-from_AllDigits : (text : List ℕ) → AllDigits 10 text → list_all is_ascii_digit text ≡ true
test-from_AllDigits [] h = refl
test-from_AllDigits (c ∷ cs) h = rw (at_digit c h.0) (test-from_AllDigits cs h.1)
