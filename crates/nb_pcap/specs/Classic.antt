-- Classic capture files (draft-ietf-opsawg-pcap): a header of 24 bytes, and records one after another.
--
-- The header has a magic number 4, which tells the order of the bytes of all numbers and the unit of times, the version 2 + 2,
-- 4 + 4 that are of no account, the most bytes of a frame 4, and LINKTYPE in the low 16 bits of 4. A record has seconds 4, their
-- fraction 4, how many bytes were captured 4, how many bytes the frame had 4, and the captured bytes. The version isn't judged
-- (our choice).
use Rattle.std.specs.Prelude.{ℕ, ◌+◌, ◌*◌, ◌%◌, cond, nat_eq, nat_lt, List, length, Option, Some, None, Result, Ok, Err}
use Rattle.std.specs.Int.{w32}
use Rattle.nb_pcap.specs.declared.fault.FileFault.{FileFault}
use Rattle.nb_pcap.specs.declared.fault.FileFault.TheVariants.{TooLong}
use Rattle.nb_pcap.specs.declared.form.Form.{Form}
use Rattle.nb_pcap.specs.declared.form.Unit.{Unit as TimeUnit}
use Rattle.nb_pcap.specs.declared.form.Unit.TheVariants.{Micro, Nano}
use Rattle.nb_pcap.specs.declared.frame.Head.{Head}
use Rattle.nb_pcap.specs.declared.numbers.Order.{Order}
use Rattle.nb_pcap.specs.declared.numbers.Order.TheVariants.{Little, Big}
use Rattle.nb_pcap.specs.declared.limits.TheConstants.{RECORD_LENGTH, MAX_CAPTURED}
use Rattle.nb_pcap.specs.Numbers.{number}

-- what a magic number says that is read low byte first: the order of all numbers, and the unit of times
abbrev pub marks : ℕ → Option (Order × TimeUnit)
marks magic =
    cond (nat_eq magic 0xa1b2c3d4) (Some (Little, Micro)) (cond (nat_eq magic 0xa1b23c4d) (Some (Little, Nano))
    (cond (nat_eq magic 0xd4c3b2a1) (Some (Big, Micro)) (cond (nat_eq magic 0x4d3cb2a1) (Some (Big, Nano)) None)))

-- the same of the magic number that bytes begin with
abbrev pub marks_in : List ℕ → Option (Order × TimeUnit)
marks_in bytes = marks (number Little w32 bytes 0)

-- what a header says with these marks
abbrev pub form_marked : List ℕ → Option (Order × TimeUnit) → Option Form
form_marked bytes None = None
form_marked bytes (Some (order, unit)) = Some (record { order = order; unit = unit; link = number order w32 bytes 20 % 65536 })

-- what a header says
abbrev pub form_of : List ℕ → Option Form
form_of bytes = form_marked bytes (marks_in bytes)

-- nanoseconds of a fraction in this unit
abbrev pub nanoseconds : TimeUnit → ℕ → ℕ
nanoseconds Micro fraction = fraction * 1_000
nanoseconds Nano fraction = fraction

-- the time of a record, in nanoseconds since 1970
abbrev pub record_time : TimeUnit → ℕ → ℕ → ℕ
record_time unit seconds fraction = seconds * 1_000_000_000 + nanoseconds unit fraction

-- what a record says, and where its frame stands
abbrev pub record_head : Form → List ℕ → Head
record_head form bytes = record {
  interface = 0;
  link = form.link;
  time = Some (record_time form.unit (number form.order w32 bytes 0) (number form.order w32 bytes 4));
  start = RECORD_LENGTH;
  captured = number form.order w32 bytes 8;
  original = number form.order w32 bytes 12;
}

-- how many bytes the record has that these bytes begin: 16 at least, and then as many as they say
abbrev pub record_size : Form → List ℕ → Result ℕ FileFault
record_size form bytes =
    cond (nat_lt (length bytes) RECORD_LENGTH) (Ok RECORD_LENGTH)
    (cond (nat_lt MAX_CAPTURED (number form.order w32 bytes 8)) (Err TooLong) (Ok (RECORD_LENGTH + number form.order w32 bytes 8)))
