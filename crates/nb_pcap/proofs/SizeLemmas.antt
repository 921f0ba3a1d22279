-- How many bytes a part has is said by its first ones.
use Rattle.std.proofs.Common.{◌≡◌, ◌⊎◌, inl, inr, ◌<◌, ◌≤◌, ◌+◌, ◌++◌, ℕ, List, take, drop, length, Option, Some, None, Result, Ok, Err, Bool, true, false, cond, nat_eq, nat_lt, is_some, refl, sym, subst, ◌∙◌, ap, arith}
use Rattle.std.specs.Int.{w32}
use Rattle.std.proofs.lemmas.List.{length-append, length-drop, length-take-le, take-append-drop, drop-append-le, take-append-le}
use Rattle.nb_pcap.specs.declared.block.BlockKind.{BlockKind}
use Rattle.nb_pcap.specs.declared.block.BlockKind.TheVariants.{Section, Interface, Obsolete, Simple, Enhanced, Other}
use Rattle.nb_pcap.specs.declared.context.Context.{Context}
use Rattle.nb_pcap.specs.declared.context.Context.TheVariants.{Beginning, Records, Blocks}
use Rattle.nb_pcap.specs.declared.fault.FileFault.{FileFault}
use Rattle.nb_pcap.specs.declared.fault.FileFault.TheVariants.{UnknownForm, TooLong}
use Rattle.nb_pcap.specs.declared.form.Form.{Form}
use Rattle.nb_pcap.specs.declared.limits.TheConstants.{RECORD_LENGTH, HEADER_LENGTH, MAX_CAPTURED}
use Rattle.nb_pcap.specs.declared.numbers.Order.{Order}
use Rattle.nb_pcap.specs.declared.numbers.Order.TheVariants.{Little}
use Rattle.nb_pcap.specs.Block.{kind_of, kind_in, block_order, sized_in, size_said, block_size, least_length}
use Rattle.nb_pcap.specs.Classic.{marks, record_size}
use Rattle.nb_pcap.specs.Context.{size_of}
use Rattle.nb_pcap.specs.Numbers.{number, in_order}

-- a number that stands before what came
pub four_same : (order : Order) (xs ys : List ℕ) (at : ℕ) → at + 4 ≤ length xs → number order w32 (xs ++ ys) at ≡ number order w32 xs at
four_same order xs ys at within =
    let here : at ≤ length xs = omega (arith, within) in
    let field : 4 ≤ length (drop at xs) = omega (arith, within, length-drop at xs) in
    ap (λ (b : List ℕ). in_order order w32 (take 4 b)) (drop-append-le at xs ys here) ∙ ap (in_order order w32) (take-append-le 4 (drop at xs) ys field)

pub kind_same : (order : Order) (xs ys : List ℕ) → 12 ≤ length xs → kind_in order (xs ++ ys) ≡ kind_in order xs
kind_same order xs ys long = ap kind_of (four_same order xs ys 0 (omega (arith, long)))

-- the first twelve bytes say what a block is
pub front_kind : (order : Order) (bytes : List ℕ) → 12 ≤ length bytes → kind_in order (take 12 bytes) ≡ kind_in order bytes
front_kind order bytes long =
    sym (kind_same order (take 12 bytes) (drop 12 bytes) (omega (arith, length-take-le 12 bytes long))) ∙ ap (kind_in order) (take-append-drop 12 bytes)

-- ---- the size is the same where more came

record_long : (form : Form) (bytes : List ℕ) → 16 ≤ length bytes
    → record_size form bytes ≡ cond (nat_lt MAX_CAPTURED (number form.order w32 bytes 8)) (Err TooLong) (Ok (RECORD_LENGTH + number form.order w32 bytes 8))
record_long form bytes long = grind (arith, long)

record_same : (form : Form) (xs ys : List ℕ) → 16 ≤ length xs → record_size form (xs ++ ys) ≡ record_size form xs
record_same form xs ys long =
    record_long form (xs ++ ys) (omega (arith, long, length-append xs ys))
    ∙ ap (λ (n : ℕ). cond (nat_lt MAX_CAPTURED n) (Err TooLong) (Ok (RECORD_LENGTH + n))) (four_same form.order xs ys 8 (omega (arith, long)))
    ∙ sym (record_long form xs long)

block_long : (order : Order) (bytes : List ℕ) → 12 ≤ length bytes → block_size order bytes ≡ size_said order (take 12 bytes)
block_long order bytes long = grind (arith, long)

block_same : (order : Order) (xs ys : List ℕ) → 12 ≤ length xs → block_size order (xs ++ ys) ≡ block_size order xs
block_same order xs ys long =
    block_long order (xs ++ ys) (omega (arith, long, length-append xs ys)) ∙ ap (size_said order) (take-append-le 12 xs ys long) ∙ sym (block_long order xs long)

-- by the number with which the first part begins, and the size of a block
abbrev first_by : ℕ → Result ℕ FileFault → Result ℕ FileFault
first_by n block = cond (is_some (marks n)) (Ok HEADER_LENGTH) (cond (nat_eq n 0x0a0d0d0a) block (Err UnknownForm))

begun : (bytes : List ℕ) → 4 ≤ length bytes → size_of Beginning bytes ≡ first_by (number Little w32 bytes 0) (block_size Little bytes)
begun bytes long = grind (arith, long)

-- how many bytes a part has at least
abbrev pub least : Context → ℕ
least Beginning = 12
least (Records form) = 16
least (Blocks section) = 12

pub size_same : (c : Context) (xs ys : List ℕ) → least c ≤ length xs → size_of c (xs ++ ys) ≡ size_of c xs
size_same Beginning xs ys long =
    begun (xs ++ ys) (omega (arith, long, length-append xs ys))
    ∙ ap (λ (n : ℕ). first_by n (block_size Little (xs ++ ys))) (four_same Little xs ys 0 (omega (arith, long)))
    ∙ ap (first_by (number Little w32 xs 0)) (block_same Little xs ys long)
    ∙ sym (begun xs (omega (arith, long)))
size_same (Records form) xs ys long = record_same form xs ys long
size_same (Blocks section) xs ys long = block_same section.order xs ys long

-- ---- what a size says

pub either : (m n : ℕ) → (m < n) ⊎ (n ≤ m)
either m n = grind arith

pub ok_is : {A : Type 0} (m n : A) (r : Result A FileFault) → r ≡ Ok m → r ≡ Ok n → m ≡ n
ok_is m n r is also = cc

least_is : (kind : BlockKind) → 12 ≤ least_length kind
least_is Section = omega arith
least_is Interface = omega arith
least_is Obsolete = omega arith
least_is Simple = omega arith
least_is Enhanced = omega arith
least_is Other = omega arith

in_least : (kind : BlockKind) (own : Option Order) (front : List ℕ) (n : ℕ) → sized_in kind own front ≡ Ok n → least_length kind ≤ n
in_least kind None front n says = absurd (cc)
in_least kind (Some own) front n says = grind (arith, says)

kind_least : (order : Order) (bytes : List ℕ) (n : ℕ) → 12 ≤ length bytes → block_size order bytes ≡ Ok n → least_length (kind_in order bytes) ≤ n
kind_least order bytes n long says =
    subst (λ (k : BlockKind). least_length k ≤ n) (front_kind order bytes long)
    (in_least (kind_in order (take 12 bytes)) (block_order order (take 12 bytes)) (take 12 bytes) n (sym (block_long order bytes long) ∙ says))

pub block_least : (order : Order) (bytes : List ℕ) (n : ℕ) → (length bytes < 12) ⊎ (12 ≤ length bytes) → block_size order bytes ≡ Ok n → 12 ≤ n
block_least order bytes n (inl short) says = grind (arith, short, says)
block_least order bytes n (inr long) says = omega (arith, least_is (kind_in order bytes), kind_least order bytes n long says)

-- a whole block is as long as its kind
pub whole_block : (order : Order) (block : List ℕ) → block_size order block ≡ Ok (length block) → least_length (kind_in order block) ≤ length block
whole_block order block says = kind_least order block (length block) (block_least order block (length block) (either (length block) 12) says) says

first_least : (classic section : Bool) (block : Result ℕ FileFault) (n : ℕ) → (block ≡ Ok n → 12 ≤ n)
    → cond classic (Ok HEADER_LENGTH) (cond section block (Err UnknownForm)) ≡ Ok n → 12 ≤ n
first_least true section block n least_there says = omega (arith, ok_is HEADER_LENGTH n (Ok HEADER_LENGTH) refl says)
first_least false true block n least_there says = least_there says
first_least false false block n least_there says = absurd (cc)

begins_long : (bytes : List ℕ) (n : ℕ) → size_of Beginning bytes ≡ Ok n → n ≤ length bytes → 4 ≤ length bytes
begins_long bytes n says within = grind (arith, says, within)

-- a whole part has as many bytes as say how long it is
pub least_size : (c : Context) (bytes : List ℕ) (n : ℕ) → size_of c bytes ≡ Ok n → n ≤ length bytes → least c ≤ n
least_size Beginning bytes n says within =
    let m : ℕ = number Little w32 bytes 0 in
    first_least (is_some (marks m)) (nat_eq m 0x0a0d0d0a) (block_size Little bytes) n (block_least Little bytes n (either (length bytes) 12))
    (sym (begun bytes (begins_long bytes n says within)) ∙ says)
least_size (Records form) bytes n says within = grind (arith, says)
least_size (Blocks section) bytes n says within = block_least section.order bytes n (either (length bytes) 12) says

pub least_long : (c : Context) → 12 ≤ least c
least_long Beginning = omega arith
least_long (Records form) = omega arith
least_long (Blocks section) = omega arith

-- the same of the part alone
pub whole_part : (c : Context) (bytes : List ℕ) (n : ℕ) → size_of c bytes ≡ Ok n → n ≤ length bytes → size_of c (take n bytes) ≡ Ok (length (take n bytes))
whole_part c bytes n says within =
    let size : length (take n bytes) ≡ n = length-take-le n bytes within in
    let long : least c ≤ length (take n bytes) = omega (arith, size, least_size c bytes n says within) in
    sym (size_same c (take n bytes) (drop n bytes) long) ∙ ap (size_of c) (take-append-drop n bytes) ∙ says ∙ ap Ok (sym size)
