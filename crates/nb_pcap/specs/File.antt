-- A capture file as its parts, one after another, and the frames that they give: a header and records, or blocks by sections.
use Rattle.std.specs.Prelude.{◌≡◌, ◌<◌, ◌≤◌, ◌++◌, ◌∷◌, ℕ, List, [], take, length, Option, Some, None, Ok, Err}
use Rattle.nb_pcap.specs.declared.context.Context.{Context}
use Rattle.nb_pcap.specs.declared.context.Context.TheVariants.{Beginning}
use Rattle.nb_pcap.specs.declared.fault.FileFault.{FileFault}
use Rattle.nb_pcap.specs.declared.frame.Head.{Head}
use Rattle.nb_pcap.specs.Context.{size_of, content}
use Rattle.nb_pcap.specs.Frame.{FrameValue, frame_at}
use Rattle.nb_pcap.specs.Section.{Taken}

-- IsPart context part taken: these bytes are a whole part, which gives this
pub record IsPart (context : Context) (part : List ℕ) (taken : Taken Context) : Type 0 where
  pub size : size_of context part ≡ Ok (length part)
  pub gives : content context part ≡ Ok taken

-- the frames of a part: one or none
abbrev pub frames_of : Context → List ℕ → Option Head → List FrameValue
frames_of context part None = []
frames_of context part (Some head) = frame_at context part head ∷ []

-- Spells context bytes frames last rest: from this context on the bytes are whole parts, one after another, which give these
-- frames, and this rest, which is to be read by the last context
pub data Spells : Context → List ℕ → List FrameValue → Context → List ℕ → Type 0 where
  no_part : (context : Context) (rest : List ℕ) → Spells context rest [] context rest
  one_more : (context last : Context) (part more rest : List ℕ) (taken : Taken Context) (frames : List FrameValue) → IsPart context part taken
      → Spells taken.next more frames last rest → Spells context (part ++ more) (frames_of taken.next part taken.head ++ frames) last rest

-- IsUnfinished context bytes: the part that these bytes begin has more of them
pub record IsUnfinished (context : Context) (bytes : List ℕ) : Type 0 where
  pub size : ℕ
  pub says : size_of context bytes ≡ Ok size
  pub short : length bytes < size

-- IsBad context bytes fault: no part stands at the front of these bytes, for this fault
pub data IsBad (context : Context) (bytes : List ℕ) (fault : FileFault) : Type 0 where
  in_size : size_of context bytes ≡ Err fault → IsBad context bytes fault
  in_content : (size : ℕ) → size_of context bytes ≡ Ok size → size ≤ length bytes → content context (take size bytes) ≡ Err fault → IsBad context bytes fault

-- IsEnd context bytes: here the file may end
pub record IsEnd (context : Context) (bytes : List ℕ) : Type 0 where
  pub nothing : bytes ≡ []
  pub begun : context ≡ Beginning → ⊥

-- IsStuck context bytes: no part stands at the front of these bytes
abbrev pub IsStuck : Context → List ℕ → Type 0
IsStuck context bytes = (part more : List ℕ) (taken : Taken Context) → bytes ≡ part ++ more → IsPart context part taken → ⊥
