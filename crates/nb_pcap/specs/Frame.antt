-- The frames of a file.
use Rattle.std.specs.Prelude.{ℕ, ◌+◌, List, take, drop, slice_get, Option, None, option_and_then, option_map}
use Rattle.std.specs.Borrow.{Bor}
use Rattle.nb_pcap.specs.declared.context.Context.{Context}
use Rattle.nb_pcap.specs.declared.context.Context.TheVariants.{Beginning, Records, Blocks}
use Rattle.nb_pcap.specs.declared.frame.Frame.{Frame}
use Rattle.nb_pcap.specs.declared.frame.Head.{Head}
use Rattle.nb_pcap.specs.declared.section.Interface.{Interface}
use Rattle.nb_pcap.specs.Section.{counted}

-- a frame, without its number and without where it lies in memory
pub record FrameValue : Type 0 where
  pub interface : ℕ
  pub name : Option (List ℕ)
  pub link : ℕ
  pub time : Option ℕ
  pub original : ℕ
  pub bytes : List ℕ

-- the number in the file of an interface that has this one in its section
abbrev pub interface_in_file : Context → ℕ → ℕ
interface_in_file Beginning which = which
interface_in_file (Records form) which = which
interface_in_file (Blocks section) which = counted (section.earlier + which)

-- the name of an interface
abbrev pub name_in : Context → ℕ → Option (List ℕ)
name_in Beginning which = None
name_in (Records form) which = None
name_in (Blocks section) which = option_and_then (λ (i : Interface). i.name) (slice_get section.interfaces which)

-- the frame that stands so in a part of the file
abbrev pub frame_at : Context → List ℕ → Head → FrameValue
frame_at context part head = record {
  interface = interface_in_file context head.interface;
  name = name_in context head.interface;
  link = head.link;
  time = head.time;
  original = head.original;
  bytes = take head.captured (drop head.start part);
}

-- the same of a frame that is lent
abbrev pub value_of : Frame → FrameValue
value_of f = record {
  interface = f.interface;
  name = option_map (λ (n : Bor (List ℕ)). n.now) f.name;
  link = f.link;
  time = f.time;
  original = f.original;
  bytes = f.bytes.now;
}
