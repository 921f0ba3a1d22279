-- Why a file isn't read to its end, in words, and the exit status (our choice).
use Rattle.std.specs.Prelude.{ℕ, List, [], ◌++◌, codes, cond, nat_eq}
use Rattle.std.specs.Fmt.{decimal}
use Rattle.nb_pcap.specs.declared.fault.FileFault.{FileFault}
use Rattle.nb_pcap.specs.declared.fault.FileFault.TheVariants as fault
use Rattle.nbt_look.specs.declared.sources.Ending.TheVariants.{Stopped}
use Rattle.nbt_look.specs.declared.sources.Waiting.{Waiting}
use Rattle.nbt_look.specs.declared.sources.Waiting.TheVariants.{Ended}
use Rattle.nbt_look.specs.declared.printing.PrintFault.{PrintFault}
use Rattle.nbt_look.specs.declared.printing.PrintFault.TheVariants.{Write, NoMemory}
use Rattle.nbt_look.specs.declared.signature.Sort.{Sort}
use Rattle.nbt_look.specs.declared.signature.Sort.TheVariants.{Empty, Gzip, Other}

-- what a fault of a file is
abbrev pub fault_words : FileFault → List ℕ
fault_words fault.UnknownForm = codes "neither pcap nor pcapng"
fault_words fault.Cut = codes "cut"
fault_words fault.TooLong = codes "too long a frame or block"
fault_words fault.BadBlock = codes "bad block"
fault_words fault.NoInterface = codes "packet of an unknown interface"
fault_words fault.TooManyInterfaces = codes "too many interfaces"
fault_words fault.Read = codes "can't be read"
fault_words fault.NoMemory = codes "memory ran out"

-- the same with its place
abbrev pub placed_text : FileFault → ℕ → ℕ → List ℕ
placed_text why frames place =
    fault_words why ++ (codes " at byte " ++ (decimal place ++ (codes ", after frame " ++ decimal frames)))

-- why an input that has no byte isn't read, and what to do
abbrev pub empty_form : List ℕ
empty_form = codes "it is empty, and a capture file has a header: capture anew"

-- why an input that gzip made isn't read, and what reads it
abbrev pub gzip_form : List ℕ
gzip_form = codes "it is compressed by gzip: zcat FILE | nbt-look - reads it"

-- why a file of another form isn't read, and what to give
abbrev pub other_form : List ℕ
other_form = codes "neither pcap nor pcapng: give what tcpdump -w or Wireshark wrote; nbt show reads captures as text"

-- stopped_text sort why frames place: why a file isn't read further: the fault with its place, but where nothing of it is read what it is by
-- its first bytes, and what to do
abbrev pub stopped_text : Sort → FileFault → ℕ → ℕ → List ℕ
stopped_text Empty fault.UnknownForm frames place = empty_form
stopped_text Empty fault.Cut frames place = empty_form
stopped_text Gzip fault.UnknownForm frames place = gzip_form
stopped_text Gzip fault.Cut frames place = gzip_form
stopped_text Other fault.UnknownForm frames place = cond (nat_eq place 0) other_form (placed_text fault.UnknownForm frames place)
stopped_text sort why frames place = placed_text why frames place

-- why what was read isn't printed
abbrev pub print_text : PrintFault → List ℕ
print_text Write = codes "standard output can't be written"
print_text NoMemory = codes "memory ran out"

-- the exit status of a file that has this to give
abbrev pub status_in : Waiting → ℕ
status_in (Ended (Stopped fault.Read frames place)) = 3
status_in (Ended (Stopped fault.NoMemory frames place)) = 3
status_in (Ended (Stopped why frames place)) = 1
status_in _ = 0

-- fault_line title sort waiting: the line about a file of this title, which has this to give, where it isn't read to its end
abbrev pub fault_line : List ℕ → Sort → Waiting → List ℕ
fault_line title sort (Ended (Stopped why frames place)) =
    codes "nbt-look: " ++ (title ++ (codes ": " ++ (stopped_text sort why frames place ++ codes "\n")))
fault_line title sort _ = []
