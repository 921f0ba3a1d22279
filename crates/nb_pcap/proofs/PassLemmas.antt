-- A block that is passed over.
use Rattle.std.proofs.Common.{◌≡◌, ◌<◌, ◌≤◌, ◌+◌, ◌-◌, ◌++◌, ◌&&◌, ℕ, min, List, [], take, drop, length, Option, None, Result, Ok, Err, Bool, true, false, not, cond, nat_le, refl, sym, subst, ◌∙◌, ap, append_assoc, arith, eq-eqb}
use Rattle.std.specs.Int.{w32}
use Rattle.std.proofs.Math.Seq.{drop-append-add}
use Rattle.std.proofs.lemmas.Bool.{ne_eqb}
use Rattle.std.proofs.lemmas.List.{append-nil, length-append, length-drop, length-take-le, take-append-drop, take_at}
use Rattle.nb_streams.specs.Counted.{Counts}
use Rattle.nb_streams.specs.Room.{RoomValue, handed_out}
use Rattle.nb_streams.specs.declared.limits.TheConstants.{MAX_READ}
use Rattle.nb_pcap.specs.declared.block.BlockKind.{BlockKind}
use Rattle.nb_pcap.specs.declared.block.BlockKind.TheVariants.{Section as SectionKind, Interface, Obsolete, Simple, Enhanced, Other}
use Rattle.nb_pcap.specs.declared.context.Context.{Context}
use Rattle.nb_pcap.specs.declared.context.Context.TheVariants.{Beginning, Records, Blocks}
use Rattle.nb_pcap.specs.declared.fault.FileFault.{FileFault}
use Rattle.nb_pcap.specs.declared.fault.FileFault.TheVariants as fault
use Rattle.nb_pcap.specs.declared.limits.TheConstants.{BLOCK_LENGTH}
use Rattle.nb_pcap.specs.declared.numbers.Order.{Order}
use Rattle.nb_pcap.specs.declared.section.Section.{Section}
use Rattle.nb_pcap.specs.Block.{kind_in, order_for, has_two_lengths, is_read}
use Rattle.nb_pcap.specs.Context.{size_of, content, passes_over, order_in, in_context}
use Rattle.nb_pcap.specs.File.{IsUnfinished, IsEnd, in_content}
use Rattle.nb_pcap.specs.Numbers.{number, in_order}
use Rattle.nb_pcap.specs.Section.{block_content, content_in, content_of}
use Rattle.nb_pcap.specs.Steps.{Reads, Passes, Stops, Took, bad}
use Rattle.nb_pcap.proofs.SizeLemmas.{either, size_same, kind_same, four_same, least, block_least}
use Rattle.nb_pcap.proofs.StepLemmas.{took_none, took_more}

-- ---- what it gives

not_read : (k : BlockKind) → not (is_read k) ≡ true → k ≡ Other
not_read SectionKind n = absurd (cc)
not_read Interface n = absurd (cc)
not_read Obsolete n = absurd (cc)
not_read Simple n = absurd (cc)
not_read Enhanced n = absurd (cc)
not_read Other n = refl

both : (a b : Bool) → a && b ≡ true → (a ≡ true) × (b ≡ true)
both true true h = (refl, refl)
both true false h = absurd (cc)
both false b h = absurd (cc)

-- a block that isn't read gives nothing, where its two lengths are one
other_content : (section : Section) (part : List ℕ) (two : Bool) → kind_in section.order part ≡ Other → has_two_lengths section.order part ≡ two
    → block_content section part ≡ cond two (Ok (record { head = None; next = section })) (Err fault.BadBlock)
other_content section part two is lengths =
    ap (λ (k : BlockKind). content_in (order_for k section.order part) section part) is
    ∙ ap (λ (k : BlockKind). cond (has_two_lengths section.order part) (content_of k section.order section part) (Err fault.BadBlock)) is
    ∙ ap (λ (b : Bool). cond b (Ok (record { head = None; next = section })) (Err fault.BadBlock)) lengths

-- IsPassed c bytes rest size: a block of so many bytes begins there that isn't read
pub record IsPassed (c : Context) (rest : List ℕ) (size : ℕ) : Type 0 where
  pub section : Section
  pub is : c ≡ Blocks section
  pub long : 12 ≤ length rest
  pub kind : kind_in section.order rest ≡ Other
  pub says : size_of c rest ≡ Ok size
  pub least_is : 12 ≤ size

pub is_passed : (c : Context) (rest : List ℕ) (size : ℕ) → size_of c rest ≡ Ok size → passes_over c rest ≡ true → IsPassed c rest size
is_passed Beginning rest size says passed = absurd (cc)
is_passed (Records form) rest size says passed = absurd (cc)
is_passed (Blocks section) rest size says passed =
    let b = both (nat_le BLOCK_LENGTH (length rest)) (not (is_read (kind_in section.order rest))) passed in
    record {
      section = section;
      is = refl;
      long = grind (arith, b.0);
      kind = not_read (kind_in section.order rest) b.1;
      says = says;
      least_is = block_least section.order rest size (either (length rest) 12) says;
    }

-- the same of all bytes that came
came_says : (c : Context) (rest got : List ℕ) (size : ℕ) (p : IsPassed c rest size) → size_of c (rest ++ got) ≡ Ok size
came_says c rest got size p =
    let long : least c ≤ length rest = subst (λ (x : Context). least x ≤ length rest) (sym p.is) p.long in
    size_same c rest got long ∙ p.says

-- the block alone
part_says : (c : Context) (rest got part more : List ℕ) (size : ℕ) (p : IsPassed c rest size) → rest ++ got ≡ part ++ more → length part ≡ size
    → (size_of c part ≡ Ok (length part)) × (kind_in p.section.order part ≡ Other)
part_says c rest got part more size p all size_is =
    let long : least c ≤ length part = subst (λ (x : Context). least x ≤ length part) (sym p.is) (omega (arith, p.least_is, size_is)) in
    let twelve : 12 ≤ length part = omega (arith, p.least_is, size_is) in (
      sym (size_same c part more long) ∙ ap (size_of c) (sym all) ∙ came_says c rest got size p ∙ ap Ok (sym size_is),
      sym (kind_same p.section.order part more twelve) ∙ ap (kind_in p.section.order) (sym all) ∙ kind_same p.section.order rest got p.long ∙ p.kind,
    )

turned : (two : Bool) (section : Section)
    → in_context (cond two (Ok (record { head = None; next = section })) (Err fault.BadBlock)) ≡ cond two (Ok (record { head = None; next = Blocks section })) (Err fault.BadBlock)
turned true section = refl
turned false section = refl

-- its content, by its second length
part_content : (c : Context) (rest got part more : List ℕ) (size : ℕ) (p : IsPassed c rest size) (two : Bool) → rest ++ got ≡ part ++ more → length part ≡ size
    → has_two_lengths p.section.order part ≡ two → content c part ≡ cond two (Ok (record { head = None; next = c })) (Err fault.BadBlock)
part_content c rest got part more size p two all size_is lengths =
    let k = (part_says c rest got part more size p all size_is).1 in
    ap (λ (x : Context). content x part) p.is
    ∙ ap in_context (other_content p.section part two k lengths)
    ∙ turned two p.section
    ∙ ap (λ (x : Context). cond two (Ok (record { head = None; next = x })) (Err fault.BadBlock)) (sym p.is)

-- ---- what is said of it

-- the number in the last four bytes
number_behind : (order : Order) (xs ys : List ℕ) (at k : ℕ) → at ≡ length xs + k → number order w32 (xs ++ ys) at ≡ number order w32 ys k
number_behind order xs ys at k is = ap (λ (b : List ℕ). in_order order w32 (take 4 b)) (ap (λ (n : ℕ). drop n (xs ++ ys)) is ∙ drop-append-add xs ys k)

-- ---- the loop

-- so many bytes of it are left to pass over
pub record IsPassing (old : RoomValue) (before now : Option (List ℕ)) (counts later : Counts) (size left : ℕ) (room : RoomValue) : Type 0 where
  pub got : List ℕ
  pub passed : List ℕ
  pub took : Took got old before now counts later room
  pub all : old.rest ++ got ≡ passed ++ room.rest
  pub left_is : length passed + left ≡ size
  pub end : 4 ≤ left
  pub near : length room.rest < left + MAX_READ

pub passing_none : (room : RoomValue) (known : Option (List ℕ)) (counts : Counts) (size : ℕ) → 12 ≤ size → length room.rest < size
    → IsPassing room known known counts counts size size room
passing_none room known counts size some short = record {
  got = [];
  passed = [];
  took = took_none room room known counts refl refl;
  all = append-nil room.rest;
  left_is = omega arith;
  end = omega (arith, some);
  near = omega (arith, short);
}

-- some of those held are passed over, and the room reads again
pub passing_on : (r : Result ℕ FileFault) (old mid out new : RoomValue) (before now after : Option (List ℕ)) (counts midway later : Counts) (size left k : ℕ)
    → IsPassing old before now counts midway size left mid → length mid.rest < left → k ≡ min (length mid.rest) (left - 4)
    → out ≡ handed_out k mid → (reads : Reads out now after midway later r new) → length reads.got ≤ MAX_READ
    → IsPassing old before after counts later size (left - k) new × (length new.rest ≡ length mid.rest - k + length reads.got)
passing_on r old mid out new before now after counts midway later size left k p short k_is is reads few_came =
    let rest : out.rest ≡ drop k mid.rest = ap (λ (v : RoomValue). v.rest) is in
    let few : k ≤ left - 4 = omega (arith, k_is) in
    let front : length (take k mid.rest) ≡ k = length-take-le k mid.rest (omega (arith, k_is)) in
    let came : List ℕ = reads.got in
    let new_is : new.rest ≡ drop k mid.rest ++ came = reads.rest ∙ ap (λ (b : List ℕ). b ++ came) rest in
    let size_is : length new.rest ≡ length mid.rest - k + length came = omega (arith, ap length new_is, length-append (drop k mid.rest) came, length-drop k mid.rest) in (
      record {
        got = p.got ++ came;
        passed = p.passed ++ take k mid.rest;
        took = took_more p.got came old mid new before now after counts midway later p.took
            (took_more [] came mid out new now now after midway midway later
            (took_none mid out now midway (ap (λ (v : RoomValue). v.taken) is) (ap (λ (v : RoomValue). v.most) is)) reads.took);
        all = sym (append_assoc old.rest p.got came) ∙ ap (λ (b : List ℕ). b ++ came) p.all
            ∙ ap (λ (b : List ℕ). (p.passed ++ b) ++ came) (sym (take-append-drop k mid.rest)) ∙ ap (λ (b : List ℕ). b ++ came) (sym (append_assoc p.passed (take k mid.rest) (drop k mid.rest)))
            ∙ append_assoc (p.passed ++ take k mid.rest) (drop k mid.rest) came
            ∙ ap (λ (b : List ℕ). (p.passed ++ take k mid.rest) ++ b) (sym new_is);
        left_is = omega (arith, length-append p.passed (take k mid.rest), front, p.left_is, few, p.end);
        end = omega (arith, few, p.end);
        near = omega (arith, size_is, few_came, k_is, short, p.end);
      },
      size_is,
    )

-- few of those held are kept
pub passing_few : (mid out : RoomValue) (left k : ℕ) → length mid.rest < left → 4 ≤ left → k ≡ min (length mid.rest) (left - 4) → out ≡ handed_out k mid
    → length out.rest < 4
passing_few mid out left k short end k_is is = omega (arith, k_is, short, end, ap (λ (v : RoomValue). length v.rest) is, length-drop k mid.rest)

-- ---- how it ends

-- the block has more bytes, and no more come
pub passing_fails : (c : Context) (old new : RoomValue) (before after : Option (List ℕ)) (counts later : Counts) (size left : ℕ) (why : FileFault)
    → IsPassed c old.rest size → IsPassing old before after counts later size left new → length new.rest < left
    → ((bytes : List ℕ) → IsUnfinished c bytes → (IsEnd c bytes → ⊥) → Stops c bytes after counts later new why)
    → Passes c old before after counts later (Err why) new
passing_fails c old new before after counts later size left why p w short stops =
    let bytes : List ℕ = old.rest ++ w.got in
    let long : length bytes < size = omega (arith, short, w.left_is, ap length w.all, length-append w.passed new.rest) in
    record {
      got = w.got;
      took = w.took;
      passes = stops bytes (record { size = size; says = came_says c old.rest w.got size p; short = long })
          (λ e. omega (arith, ap length e.nothing, length-append old.rest w.got, p.long));
    }

-- IsBlock: this is the block, and the number at its end
record IsBlock (old : RoomValue) (got part rest : List ℕ) (order : Order) (size last : ℕ) : Type 0 where
  all : old.rest ++ got ≡ part ++ rest
  size_is : length part ≡ size
  last_is : number order w32 part (length part - 4) ≡ last

block_there : (old mid : RoomValue) (before now : Option (List ℕ)) (counts later : Counts) (order : Order) (size left : ℕ) (w : IsPassing old before now counts later size left mid)
    → left ≤ length mid.rest → IsBlock old w.got (w.passed ++ take left mid.rest) (drop left mid.rest) order size (number order w32 mid.rest (left - 4))
block_there old mid before now counts later order size left w within =
    let front : List ℕ = take left mid.rest in
    let few : length front ≡ left = length-take-le left mid.rest within in
    let size_is : length (w.passed ++ front) ≡ size = omega (arith, length-append w.passed front, few, w.left_is) in
    record {
      all = w.all ∙ ap (λ (b : List ℕ). w.passed ++ b) (sym (take-append-drop left mid.rest)) ∙ sym (append_assoc w.passed front (drop left mid.rest));
      size_is = size_is;
      last_is = number_behind order w.passed front (length (w.passed ++ front) - 4) (left - 4) (omega (arith, length-append w.passed front, few, w.end))
          ∙ sym (four_same order front (drop left mid.rest) (left - 4) (omega (arith, few, w.end)))
          ∙ ap (λ (b : List ℕ). number order w32 b (left - 4)) (take-append-drop left mid.rest);
    }

-- its second length is its length, and it is passed over whole
pub block_passed : (c : Context) (old mid new : RoomValue) (before now : Option (List ℕ)) (counts later : Counts) (size left : ℕ) (p : IsPassed c old.rest size)
    → IsPassing old before now counts later size left mid → left ≤ length mid.rest → number p.section.order w32 mid.rest (left - 4) ≡ size
    → new ≡ handed_out left mid → Passes c old before now counts later (Ok tt) new
block_passed c old mid new before now counts later size left p w within same is =
    let b = block_there old mid before now counts later p.section.order size left w within in
    let piece : List ℕ = w.passed ++ take left mid.rest in
    let two : has_two_lengths p.section.order piece ≡ true =
    eq-eqb (number p.section.order w32 piece (length piece - 4)) (length piece) (b.last_is ∙ same ∙ sym b.size_is) in
    rw is (record {
      got = w.got;
      took = record { consumes = w.took.consumes; taken = w.took.taken; most = w.took.most; within = w.took.within; grow = w.took.grow };
      passes = (
        piece,
        b.all,
        record {
          size = (part_says c old.rest w.got piece (drop left mid.rest) size p b.all b.size_is).0;
          gives = part_content c old.rest w.got piece (drop left mid.rest) size p true b.all b.size_is two;
        },
        omega (arith, w.near, within, length-drop left mid.rest),
      );
    })

-- its second length is another
pub block_bad : (c : Context) (old mid : RoomValue) (before now : Option (List ℕ)) (counts later : Counts) (size left : ℕ) (p : IsPassed c old.rest size)
    → IsPassing old before now counts later size left mid → left ≤ length mid.rest → (number p.section.order w32 mid.rest (left - 4) ≡ size → ⊥)
    → Passes c old before now counts later (Err fault.BadBlock) mid
block_bad c old mid before now counts later size left p w within other =
    let b = block_there old mid before now counts later p.section.order size left w within in
    let piece : List ℕ = w.passed ++ take left mid.rest in
    let two : has_two_lengths p.section.order piece ≡ false =
    ne_eqb (number p.section.order w32 piece (length piece - 4)) (length piece) (λ h. other (sym b.last_is ∙ h ∙ b.size_is)) in
    let there : size ≤ length (old.rest ++ w.got) = omega (arith, ap length b.all, length-append piece (drop left mid.rest), b.size_is) in
    let front : take size (old.rest ++ w.got) ≡ piece = ap (take size) b.all ∙ take_at piece (drop left mid.rest) size b.size_is in
    record {
      got = w.got;
      took = w.took;
      passes = bad fault.BadBlock (in_content size (came_says c old.rest w.got size p) there
          (ap (content c) front ∙ part_content c old.rest w.got piece (drop left mid.rest) size p false b.all b.size_is two));
    }

-- the number that was read, in the block's order
pub end_read : (c : Context) (rest held : List ℕ) (size n at : ℕ) (order : Order) (p : IsPassed c rest size) (bytes : List ℕ) → order ≡ order_in c → bytes ≡ held
    → n ≡ number order w32 bytes at → n ≡ number p.section.order w32 held at
end_read c rest held size n at order p bytes is same read =
    read ∙ ap (λ (b : List ℕ). number order w32 b at) same ∙ ap (λ (o : Order). number o w32 held at) (is ∙ ap order_in p.is)
