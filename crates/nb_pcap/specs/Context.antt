-- The parts of a file, one after another, and what each is read by: at the beginning the header of a classic file or a Section
-- Header, and then records in the form that the header says, or blocks in the section that is theirs.
use Rattle.std.specs.Prelude.{ℕ, ◌&&◌, [], Bool, false, not, cond, nat_eq, nat_le, nat_lt, List, length, Option, Some, None, Result, Ok, Err, is_some}
use Rattle.std.specs.Int.{w32}
use Rattle.nb_pcap.specs.declared.context.Context.{Context}
use Rattle.nb_pcap.specs.declared.context.Context.TheVariants.{Beginning, Records, Blocks}
use Rattle.nb_pcap.specs.declared.fault.FileFault.{FileFault}
use Rattle.nb_pcap.specs.declared.fault.FileFault.TheVariants.{UnknownForm}
use Rattle.nb_pcap.specs.declared.form.Form.{Form}
use Rattle.nb_pcap.specs.declared.limits.TheConstants.{MAGIC_LENGTH, HEADER_LENGTH, BLOCK_LENGTH}
use Rattle.nb_pcap.specs.declared.numbers.Order.{Order}
use Rattle.nb_pcap.specs.declared.numbers.Order.TheVariants.{Little}
use Rattle.nb_pcap.specs.declared.section.Section.{Section}
use Rattle.nb_pcap.specs.Block.{kind_in, block_size, is_read}
use Rattle.nb_pcap.specs.Classic.{marks_in, form_of, record_size, record_head}
use Rattle.nb_pcap.specs.Numbers.{number}
use Rattle.nb_pcap.specs.Section.{Taken, block_content}

-- the section before the first one
abbrev pub no_section : Section
no_section = record { order = Little; interfaces = []; earlier = 0 }

-- how many bytes the first part has: a magic number says that it is the header of a classic file, or the type of a Section Header
abbrev pub first_size : List ℕ → Result ℕ FileFault
first_size bytes =
    cond (is_some (marks_in bytes)) (Ok HEADER_LENGTH)
    (cond (nat_eq (number Little w32 bytes 0) 0x0a0d0d0a) (block_size Little bytes) (Err UnknownForm))

-- size_of context bytes: how many bytes the part has at least that these bytes begin, as far as they say; or why there is none
abbrev pub size_of : Context → List ℕ → Result ℕ FileFault
size_of Beginning bytes = cond (nat_lt (length bytes) MAGIC_LENGTH) (Ok MAGIC_LENGTH) (first_size bytes)
size_of (Records form) bytes = record_size form bytes
size_of (Blocks section) bytes = block_size section.order bytes

-- whether the part is passed over that these bytes begin, and not held: a block of a type that isn't read
abbrev pub passes_over : Context → List ℕ → Bool
passes_over Beginning bytes = false
passes_over (Records form) bytes = false
passes_over (Blocks section) bytes = nat_le BLOCK_LENGTH (length bytes) && not (is_read (kind_in section.order bytes))

-- the order of the bytes of a part's numbers
abbrev pub order_in : Context → Order
order_in Beginning = Little
order_in (Records form) = form.order
order_in (Blocks section) = section.order

-- the same as a block gives
abbrev pub in_context : Result (Taken Section) FileFault → Result (Taken Context) FileFault
in_context (Ok taken) = Ok (record { head = taken.head; next = Blocks taken.next })
in_context (Err fault) = Err fault

-- what the first part gives, by what the header of a classic file says in it
abbrev pub first_content : Option Form → List ℕ → Result (Taken Context) FileFault
first_content (Some form) part = Ok (record { head = None; next = Records form })
first_content None part = in_context (block_content no_section part)

-- content context part: what a whole part gives, and what the parts after it are read by; or why it isn't good
abbrev pub content : Context → List ℕ → Result (Taken Context) FileFault
content Beginning part = first_content (form_of part) part
content (Records form) part = Ok (record { head = Some (record_head form part); next = Records form })
content (Blocks section) part = in_context (block_content section part)
