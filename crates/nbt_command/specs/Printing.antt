-- What is printed of a text (our choice). A line ends with a line feed, 10.
use Rattle.std.specs.Prelude.{◌≡◌, ℕ, List, [], ◌∷◌, ◌++◌, Option, Result, Ok, Err, IfErr}
use Rattle.std.specs.Io.KnownBytes.{Appends, Keeps}
use Rattle.nb_streams.specs.Counted.{Counts}
use Rattle.nb_streams.specs.Devices.{AppendsFront, ShowsWriteFault}
use Rattle.nbt_command.specs.declared.fault.Fault.{Fault}
use Rattle.nbt_command.specs.declared.fault.Fault.TheVariants.{Write, Memory}

-- the text as a line
abbrev pub line : List ℕ → List ℕ
line text = text ++ 10 ∷ []

-- PrintsLine old new text: an output that held the old bytes has the line of the text after them now
abbrev pub PrintsLine : Option (List ℕ) → Option (List ℕ) → List ℕ → Type 0
PrintsLine old new text = Appends old new (line text)

-- PrintsFront old new text: an output that held the old bytes has a front of the line of the text after them now
abbrev pub PrintsFront : Option (List ℕ) → Option (List ℕ) → List ℕ → Type 0
PrintsFront old new text = AppendsFront old new (line text)

-- PrintsText text old new result: the text is printed, a front of it where the output failed, or nothing where memory ran out
abbrev pub PrintsText : List ℕ → Option (List ℕ) → Option (List ℕ) → Result Unit Fault → Type 0
PrintsText text old new (Ok done) = Appends old new text
PrintsText text old new (Err Write) = AppendsFront old new text
PrintsText text old new (Err Memory) = Keeps old new
PrintsText text old new (Err _) = ⊥

-- ExplainsWrite result old new: an output that failed has had a call counted that shows it
abbrev pub ExplainsWrite : {A : Type 0} → Result A Fault → Counts → Counts → Type 0
ExplainsWrite result old new = IfErr result (λ fault. fault ≡ Write → ShowsWriteFault old new)
