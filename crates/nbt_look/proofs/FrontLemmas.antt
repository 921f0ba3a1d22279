-- Bytes of a capture file that come after others.
use Rattle.std.proofs.Common.{◌++◌, ℕ, List, sym, subst, append_assoc}
use Rattle.nb_pcap.specs.declared.context.Context.{Context}
use Rattle.nb_pcap.specs.File.{Spells, no_part, one_more, frames_of}
use Rattle.nb_pcap.specs.Frame.{FrameValue}

-- bytes that came after the rest
pub spells_on : (context last : Context) (bytes came rest : List ℕ) (frames : List FrameValue) → Spells context bytes frames last rest
    → Spells context (bytes ++ came) frames last (rest ++ came)
spells_on _ _ _ came _ _ (no_part context rest) = no_part context (rest ++ came)
spells_on _ _ _ came _ _ (one_more context last part more rest taken frames is others) =
    subst (λ (b : List ℕ). Spells context b (frames_of taken.next part taken.head ++ frames) last (rest ++ came)) (sym (append_assoc part more came))
    (one_more context last part (more ++ came) (rest ++ came) taken frames is (spells_on taken.next last more came rest frames others))

-- parts after parts
spells_then : (context mid last : Context) (bytes between rest : List ℕ) (frames others : List FrameValue) → Spells context bytes frames mid between
    → Spells mid between others last rest → Spells context bytes (frames ++ others) last rest
spells_then _ _ last _ _ rest _ others (no_part context between) s = s
spells_then _ _ last _ _ rest _ others (one_more context mid part more between taken frames is t) s =
    subst (λ (fs : List FrameValue). Spells context (part ++ more) fs last rest) (sym (append_assoc (frames_of taken.next part taken.head) frames others))
    (one_more context last part more rest taken (frames ++ others) is (spells_then taken.next mid last more between rest frames others t s))

-- what came after the rest goes on with it
pub spells_came : (context mid last : Context) (bytes came between rest : List ℕ) (frames others : List FrameValue) → Spells context bytes frames mid between
    → Spells mid (between ++ came) others last rest → Spells context (bytes ++ came) (frames ++ others) last rest
spells_came context mid last bytes came between rest frames others s t =
    spells_then context mid last (bytes ++ came) (between ++ came) rest frames others (spells_on context mid bytes came between frames s) t
