-- Lines: one value at most, and one of three kinds.
use Rattle.nb_capture.proofs.Common.{◌≡◌, ◌≢◌, ℕ, zero, ◌%◌, ◌^◌, true, false, List, [], ◌∷◌, ◌++◌, length, refl, sym, ap, ◌∙◌, arith, Some, None, ◌⊎◌, inl, inr, ◌≤◌, Result, Ok, Err, Contains, codes, slice_get, MatchOption, list_all, is_ascii_digit, is_ascii_hexdigit, digits_value, AllDigits, ParsesUnsigned, false≢true, cases_Bool, cases_lt, cases_eq, Contains-append_right, bytes_eq-Decides, Packet, Tick, MAX_LINE, MAX_MOMENT_DIGITS, PortText, names, datagrams, sessions, MomentText, HasWords, packet, tick, Blank, comment, HasValue, SaysNothing, IsMalformed, DataText, empty, digits, HexText}
use Rattle.std.specs.Str.{bytes_eq, IsAscii}
use Rattle.nb_capture.specs.declared.line.Line.{Line}
use Rattle.nb_capture.proofs.CaptureLemmas.Words.{AllDigits-from_test, test-from_AllDigits, Contains-behind, Contains-before, Blank-cases, Says-cases, packet_behind, packet_at_space, packet_has_space, tick_behind, moment_no_space, port_no_space, tick_no_space, one_split}
use Rattle.nb_streams.specs.HexadecimalFacts.{HexText-from_test, test-from_HexText, DataText-cases, length-HexText, one_HexText}
use Rattle.nb_capture.specs.Capture.{nothing}
use Rattle.std.specs.Result.{result_ok}
use Rattle.std.proofs.lemmas.Str.Parse.{parse_digits, numerals_by_value, tells_digits}
use Rattle.std.proofs.lemmas.Fmt.{IsAscii-from_digits}

-- ---- payloads: what a word stands for

-- an odd number of digits gives no bytes
pub no_odd_hex : (text : List ℕ) → length text % 2 ≢ 0 → ¬ ((bytes : List ℕ) × HexText bytes text)
no_odd_hex text odd h =
    let len = length-HexText h.0 text h.1 in
    odd (omega (arith, len))

-- `empty` is no row of digits
empty_no_hex : (bytes text : List ℕ) → HexText bytes text → text ≢ codes "empty"
empty_no_hex bytes text h e =
    let len = length-HexText bytes text h in
    let five : length text ≡ 5 = ap length e in
    absurd (omega (arith, len, five))

-- a word stands for one payload
pub one_payload : (text payload other : List ℕ) → DataText payload text → DataText other text → payload ≡ other
one_payload text payload other p q =
    elim (DataText-cases payload text p) [
      | inl a ↦ elim (DataText-cases other text q) [
        | inl b ↦ a.0 ∙ sym b.0
        | inr b ↦ absurd (empty_no_hex other text b.1 a.1)
      ]
      | inr a ↦ elim (DataText-cases other text q) [
        | inl b ↦ absurd (empty_no_hex payload text a.1 b.1)
        | inr b ↦ one_HexText text payload other a.1 b.1
      ]
    ]

-- ---- one value

-- a line says one thing
pub one_value : (line : List ℕ) (value other : Line) → HasWords line value → HasWords line other → value ≡ other
one_value line value other says also =
    elim (Says-cases line value says) [
      | inl l ↦
          let w = l.has_words in
          let behind = packet_behind l.port l.port_text l.words other l.has_port (rw l.line_is at also) in
          let parts = packet_at_space l.port l.words w.moment_text w.payload_text other behind w.words_are (moment_no_space w.moment w.moment_text w.has_moment) in
          let moments : w.moment ≡ parts.0 = w.has_moment.value ∙ sym parts.2.value in
          let payloads = one_payload w.payload_text w.payload parts.1 w.has_payload parts.3 in
          w.value_is ∙ (ap (λ (m : ℕ). Packet l.port m w.payload) moments
          ∙ (ap (λ (p : List ℕ). Packet l.port parts.0 p) payloads ∙ sym parts.4))
      | inr l ↦
          let parts = tick_behind l.text other (rw l.line_is at also) in
          l.value_is ∙ (ap Tick (l.has_moment.value ∙ sym parts.1.value) ∙ sym parts.2)
    ]

-- a port's word begins with `1`
port_first : (port : ℕ) (text rest : List ℕ) → PortText port text → slice_get (text ++ rest) 0 ≡ Some 49
port_first _ _ rest names = refl
port_first _ _ rest datagrams = refl
port_first _ _ rest sessions = refl

-- what says something begins with `1` or `t`
says_first : (line : List ℕ) (value : Line) → HasWords line value
    → (slice_get line 0 ≡ Some 49) ⊎ (slice_get line 0 ≡ Some 116)
says_first line value says =
    elim (Says-cases line value says) [
      | inl l ↦ inl (rw l.line_is (port_first l.port l.port_text (32 ∷ l.words) l.has_port))
      | inr l ↦ inr (rw l.line_is refl)
    ]

-- what is blank has no first byte, or begins with `#`
blank_first : (line : List ℕ) → Blank line → (slice_get line 0 ≡ None) ⊎ (slice_get line 0 ≡ Some 35)
blank_first line blank =
    elim (Blank-cases line blank) [
      | inl none ↦ inl (rw none refl)
      | inr some ↦ inr (rw some.1 refl)
    ]

-- a line that says something isn't blank
pub not_blank : (line : List ℕ) (value : Line) → HasWords line value → ¬ Blank line
not_blank line value says blank =
    elim (says_first line value says) [
      | inl one ↦ elim (blank_first line blank) [ inl a ↦ cc | inr a ↦ cc ]
      | inr one ↦ elim (blank_first line blank) [ inl a ↦ cc | inr a ↦ cc ]
    ]

-- ---- one of three

abbrev Either : Type 0 → Type 0
Either A = A ⊎ (¬ A)

decide_contains : (xs : List ℕ) (x : ℕ) → Either (Contains xs x)
decide_contains [] x = inr (λ h. omega (arith, h.1))
decide_contains (y ∷ xs) x =
    elim (cases_eq y x) [
      | inl same ↦ inl (zero, omega arith, same)
      | inr differ ↦ elim (decide_contains xs x) [
        | inl has ↦ inl (Contains-before y x xs has)
        | inr lacks ↦ inr (λ h. lacks (Contains-behind y x xs differ h))
      ]
    ]

decide_same : (xs ys : List ℕ) → (xs ≡ ys) ⊎ (xs ≢ ys)
decide_same xs ys =
    let is = bytes_eq-Decides xs ys in
    elim (cases_Bool (bytes_eq xs ys)) [
      | inl passed ↦ inl (is.0 passed)
      | inr refused ↦ inr (λ e. false≢true (sym refused ∙ is.1 e))
    ]

-- the words around the first space
abbrev HasSplit : List ℕ → Type 0
HasSplit text = (a : List ℕ) × (b : List ℕ) × (text ≡ a ++ 32 ∷ b) × (¬ Contains a 32)

decide_split : (text : List ℕ) → HasSplit text ⊎ (¬ Contains text 32)
decide_split [] = inr (λ h. omega (arith, h.1))
decide_split (c ∷ text) =
    elim (cases_eq c 32) [
      | inl same ↦ inl ([], text, ap (λ (x : ℕ). x ∷ text) same, λ h. omega (arith, h.1))
      | inr differ ↦ elim (decide_split text) [
        | inl parts ↦
            inl (
              c ∷ parts.0,
              parts.1,
              ap (λ (xs : List ℕ). c ∷ xs) parts.2,
              λ h. parts.3 (Contains-behind c 32 parts.0 differ h),
            )
        | inr lacks ↦ inr (λ h. lacks (Contains-behind c 32 text differ h))
      ]
    ]

decide_blank : (line : List ℕ) → Either (Blank line)
decide_blank [] = inl nothing
decide_blank (c ∷ text) =
    elim (cases_eq c 35) [
      | inl same ↦ elim (decide_contains text 10) [
        | inl has ↦ inr (λ blank. elim (Blank-cases (c ∷ text) blank) [
          | inl none ↦ absurd (cc)
          | inr some ↦
              let behind : text ≡ some.0 = cc in
              some.2 (rw behind at has)
        ])
        | inr lacks ↦ inl (rw same (comment text lacks))
      ]
      | inr differ ↦ inr (λ blank. elim (Blank-cases (c ∷ text) blank) [
        | inl none ↦ absurd (cc)
        | inr some ↦ differ (cc)
      ])
    ]

decide_moment : (text : List ℕ) → Either ((moment : ℕ) × MomentText moment text)
decide_moment text =
    elim (cases_Bool (list_all is_ascii_digit text)) [
      | inr refused ↦ inr (λ m. false≢true (sym refused ∙ test-from_AllDigits text m.1.digits.1))
      | inl all ↦ elim (cases_lt 0 (length text)) [
        | inr none ↦ inr (λ m. let some = m.1.digits.0 in omega (arith, some))
        | inl some ↦ elim (cases_lt MAX_MOMENT_DIGITS (length text)) [
          | inl many ↦ inr (λ m. let most = m.1.most in omega (arith, most))
          | inr most ↦ elim (cases_lt (digits_value 10 text) (2 ^ 64)) [
            | inl fits ↦ inl (
              digits_value 10 text,
              record {
                digits = (some, AllDigits-from_test text all);
                most = most;
                value = refl;
                fits = fits;
              },
            )
            | inr big ↦ inr (λ m. let fits = rw m.1.value at m.1.fits in omega (arith, fits))
          ]
        ]
      ]
    ]

decide_payload : (text : List ℕ) → Either ((payload : List ℕ) × DataText payload text)
decide_payload text =
    elim (decide_same text (codes "empty")) [
      | inl is ↦ inl ([], rw is empty)
      | inr differ ↦ elim (cases_lt 0 (length text)) [
        | inr none ↦ inr (λ p. elim (DataText-cases p.0 text p.1) [
          | inl e ↦ differ e.1
          | inr d ↦ let some = d.0 in omega (arith, some)
        ])
        | inl some ↦ elim (cases_eq (length text % 2) 0) [
          | inr odd ↦ inr (λ p. elim (DataText-cases p.0 text p.1) [
            | inl e ↦ differ e.1
            | inr d ↦ no_odd_hex text odd (p.0, d.1)
          ])
          | inl even ↦ elim (cases_Bool (list_all is_ascii_hexdigit text)) [
            | inl all ↦
                let hex = HexText-from_test text all even in
                inl (hex.0, digits hex.0 text some hex.1)
            | inr refused ↦ inr (λ p. elim (DataText-cases p.0 text p.1) [
              | inl e ↦ differ e.1
              | inr d ↦ false≢true (sym refused ∙ test-from_HexText p.0 text d.1)
            ])
          ]
        ]
      ]
    ]

decide_packet : (port : ℕ) (text words : List ℕ) → PortText port text → Either ((value : Line) × HasWords (text ++ 32 ∷ words) value)
decide_packet port text words p =
    elim (decide_split words) [
      | inr none ↦ inr (λ v. none (packet_has_space port words v.0 (packet_behind port text words v.0 p v.1)))
      | inl parts ↦ elim (decide_moment parts.0) [
        | inr refused ↦ inr (λ v.
            let at = packet_at_space port words parts.0 parts.1 v.0 (packet_behind port text words v.0 p v.1) parts.2 parts.3 in
            refused (at.0, at.2))
        | inl moment ↦ elim (decide_payload parts.1) [
          | inr refused ↦ inr (λ v.
              let at = packet_at_space port words parts.0 parts.1 v.0 (packet_behind port text words v.0 p v.1) parts.2 parts.3 in
              refused (at.1, at.3))
          | inl payload ↦
              inl (
                Packet port moment.0 payload.0,
                rw parts.2 (packet port moment.0 payload.0 text parts.0 parts.1 p moment.1 payload.1),
              )
        ]
      ]
    ]

decide_tick : (words : List ℕ) → Either ((value : Line) × HasWords (codes "tick" ++ 32 ∷ words) value)
decide_tick words =
    elim (decide_moment words) [
      | inl moment ↦ inl (Tick moment.0, tick moment.0 words moment.1)
      | inr refused ↦ inr (λ v. let at = tick_behind words v.0 v.1 in refused (at.0, at.1))
    ]

-- a line's first word is a port's, or `tick`
first_word : (line a b : List ℕ) (value : Line) → line ≡ a ++ 32 ∷ b → ¬ Contains a 32 → HasWords line value
    → ((port : ℕ) × PortText port a) ⊎ (a ≡ codes "tick")
first_word line a b value e no_space says =
    elim (Says-cases line value says) [
      | inl l ↦
          let parts = one_split 32 a b l.port_text l.words no_space (port_no_space l.port l.port_text l.has_port) (sym e ∙ l.line_is) in
          inl (l.port, rw parts.0 l.has_port)
      | inr l ↦
          let parts = one_split 32 a b (codes "tick") l.text no_space tick_no_space (sym e ∙ l.line_is) in
          inr parts.0
    ]

no_port : (port : ℕ) (text : List ℕ) → PortText port text → text ≢ codes "137" → text ≢ codes "138" → text ≢ codes "139" → ⊥
no_port _ _ names a b c = a refl
no_port _ _ datagrams a b c = b refl
no_port _ _ sessions a b c = c refl

decide_port : (text : List ℕ) → Either ((port : ℕ) × PortText port text)
decide_port text =
    elim (decide_same text (codes "137")) [
      | inl is ↦ inl (137, rw is names)
      | inr a ↦ elim (decide_same text (codes "138")) [
        | inl is ↦ inl (138, rw is datagrams)
        | inr b ↦ elim (decide_same text (codes "139")) [
          | inl is ↦ inl (139, rw is sessions)
          | inr c ↦ inr (λ h. no_port h.0 text h.1 a b c)
        ]
      ]
    ]

space_behind : (front behind : List ℕ) → Contains (front ++ 32 ∷ behind) 32
space_behind front behind = Contains-append_right front (32 ∷ behind) 32 (zero, omega arith, refl)

says_has_space : (line : List ℕ) (value : Line) → HasWords line value → Contains line 32
says_has_space line value says =
    elim (Says-cases line value says) [
      | inl l ↦ rw l.line_is (space_behind l.port_text l.words)
      | inr l ↦ rw l.line_is (space_behind (codes "tick") l.text)
    ]

decide_says : (line : List ℕ) → Either ((value : Line) × HasWords line value)
decide_says line =
    elim (decide_split line) [
      | inr none ↦ inr (λ v. none (says_has_space line v.0 v.1))
      | inl parts ↦ elim (decide_port parts.0) [
        | inl port ↦ rw parts.2 (decide_packet port.0 parts.0 parts.1 port.1)
        | inr no_port ↦ elim (decide_same parts.0 (codes "tick")) [
          | inl is ↦ rw (parts.2, is) (decide_tick parts.1)
          | inr no_tick ↦ inr (λ v. elim (first_word line parts.0 parts.1 v.0 parts.2 parts.3 v.1) [
            | inl port ↦ no_port port
            | inr is ↦ no_tick is
          ])
        ]
      ]
    ]

-- any bytes are blank, say something, or are malformed
pub one_of_three : (line : List ℕ) → SaysNothing line ⊎ (((value : Line) × HasValue line value) ⊎ IsMalformed line)
one_of_three line =
    elim (cases_lt MAX_LINE (length line)) [
      | inl long ↦ inr (inr (record {
        not_blank = λ h. let short = h.length in omega (arith, short);
        no_value = λ value h. let short = h.length in omega (arith, short);
      }))
      | inr short ↦ elim (decide_blank line) [
        | inl blank ↦ inl (record { blank = blank; length = short })
        | inr no_blank ↦ elim (decide_says line) [
          | inl v ↦ inr (inl (v.0, record { says = v.1; length = short }))
          | inr none ↦ inr (inr (record {
            not_blank = λ h. no_blank h.blank;
            no_value = λ value h. none (value, h.says);
          }))
        ]
      ]
    ]

-- ---- moments: what parsing their digits gives

-- a word that isn't all digits is no moment
pub no_moment_from_test : (text : List ℕ) → list_all is_ascii_digit text ≡ false → (moment : ℕ) → ¬ MomentText moment text
no_moment_from_test text h moment m =
    false≢true (sym h ∙ test-from_AllDigits text m.digits.1)

-- digits are ASCII
pub digits_are_ascii : (text : List ℕ) → list_all is_ascii_digit text ≡ true → IsAscii text
digits_are_ascii text h = IsAscii-from_digits text (AllDigits-from_test text h)

-- what is parsed of digits is their moment, and nothing is where they have none
pub moment_from_parse : {E : Type 0} (text : List ℕ) (r : Result ℕ E) → list_all is_ascii_digit text ≡ true
    → length text ≤ MAX_MOMENT_DIGITS → ParsesUnsigned 64 10 text r
    → MatchOption (result_ok r) ((moment : ℕ) → ¬ MomentText moment text) (λ moment. MomentText moment text)
moment_from_parse {E} text (Ok moment) h most parsed =
    let all = AllDigits-from_test text h in
    let is = parse_digits (numerals_by_value (AllDigits 10) tells_digits) {E = E} 64 text (Ok moment) parsed all in
    record {
      digits = (is.0.0, all);
      most = most;
      value = is.1;
      fits = rw is.1 is.0.1;
    }
moment_from_parse {E} text (Err e) h most parsed =
    let all = AllDigits-from_test text h in
    let is = parse_digits (numerals_by_value (AllDigits 10) tells_digits) 64 text (Err e) parsed all in
    λ moment m. is (m.digits.0, rw m.value at m.fits)
