-- The parts of a file.
use Rattle.std.proofs.Common.{◌≡◌, ℕ, List, [], ap, refl, Result, Option, None, Ok, Err}
use Rattle.nb_pcap.specs.declared.context.Context.TheVariants.{Beginning, Blocks}
use Rattle.nb_pcap.specs.declared.fault.FileFault.{FileFault}
use Rattle.nb_pcap.specs.declared.form.Form.{Form}
use Rattle.nb_pcap.specs.declared.frame.Head.{Head}
use Rattle.nb_pcap.specs.declared.numbers.Order.TheVariants.{Little}
use Rattle.nb_pcap.specs.declared.section.Interface.{Interface}
use Rattle.nb_pcap.specs.declared.section.Section.{Section}
use Rattle.nb_pcap.specs.Context.{in_context, first_content}
use Rattle.nb_pcap.specs.Section.{Taken, Gives, block_content}

-- what a block gives in its section it gives in the file
pub in_file : (content : Result (Taken Section) FileFault) (result : Result (Option Head) FileFault) (old new : Section)
    → Gives content result old new → Gives (in_context content) result (Blocks old) (Blocks new)
in_file (Ok taken) (Ok head) old new g = (g.0, ap Blocks g.1)
in_file (Ok taken) (Err fault) old new g = (g.0, ap Blocks g.1)
in_file (Err why) (Ok head) old new g = g
in_file (Err why) (Err fault) old new g = (g.0, ap Blocks g.1)

-- what a Section Header gives at the beginning of the file
first_ok : (content : Result (Taken Section) FileFault) (head : Option Head) (old new : Section) → Gives content (Ok head) old new
    → Gives (in_context content) (Ok head) Beginning (Blocks new)
first_ok (Ok taken) head old new g = (g.0, ap Blocks g.1)
first_ok (Err why) head old new g = g

first_err : (content : Result (Taken Section) FileFault) (why : FileFault) (old new : Section) → Gives content (Err why) old new
    → Gives (in_context content) (Err why) Beginning Beginning
first_err (Ok taken) why old new g = (g.0, refl)
first_err (Err fault) why old new g = (g.0, refl)

-- the section before the first one, where it has these interfaces
abbrev with : List Interface → Section
with interfaces = record { order = Little; interfaces = interfaces; earlier = 0 }

pub first_given : (form : Option Form) (part : List ℕ) (interfaces : List Interface) (head : Option Head) (new : Section) → form ≡ None → interfaces ≡ []
    → Gives (block_content (with interfaces) part) (Ok head) (with interfaces) new → Gives (first_content form part) (Ok head) Beginning (Blocks new)
first_given form part interfaces head new is none g =
    rw is (rw none at (first_ok (block_content (with interfaces) part) head (with interfaces) new g))

pub first_refused : (form : Option Form) (part : List ℕ) (interfaces : List Interface) (why : FileFault) (new : Section) → form ≡ None → interfaces ≡ []
    → Gives (block_content (with interfaces) part) (Err why) (with interfaces) new → Gives (first_content form part) (Err why) Beginning Beginning
first_refused form part interfaces why new is none g =
    rw is (rw none at (first_err (block_content (with interfaces) part) why (with interfaces) new g))
