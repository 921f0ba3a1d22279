-- What `nbt show` prints of a line.
use Rattle.nbt_packets.proofs.Common.{◌≡◌, ◌++◌, ℕ, List, codes, sym, subst, ◌∙◌, ap, append_assoc, decimal, Packet, Tick}
use Rattle.nb_capture.specs.declared.line.Line as capture
use Rattle.nb_text.specs.Lines.{line_end}
use Rattle.nbt_packets.specs.Showing.{PayloadText, ShowsValue, packet, tick}

-- a payload's text is added after the line's number and its port
pub adds_packet : (IsText : PayloadText) (n port moment : ℕ) (payload old mid new : List ℕ) (value : capture.Line) → value ≡ Packet port moment payload
    → mid ≡ old ++ (decimal n ++ (codes " " ++ (decimal port ++ codes " "))) → ((shown : List ℕ) × IsText payload port shown × (new ≡ mid ++ shown))
    → (shown : List ℕ) × ShowsValue IsText n value shown × (new ≡ old ++ shown)
adds_packet IsText n port moment payload old mid new value is front a =
    let text = decimal n ++ (codes " " ++ (decimal port ++ (codes " " ++ a.0))) in
    let behind = codes " " ++ (decimal port ++ codes " ") in (
      text,
      subst (λ (v : capture.Line). ShowsValue IsText n v text) (sym is) (packet port moment payload a.0 a.1),
      a.2 ∙ ap (λ (t : List ℕ). t ++ a.0) front ∙ append_assoc old (decimal n ++ behind) a.0
          ∙ ap (λ (t : List ℕ). old ++ t)
          (append_assoc (decimal n) behind a.0
          ∙ ap (λ (t : List ℕ). decimal n ++ (codes " " ++ t)) (append_assoc (decimal port) (codes " ") a.0)),
    )

-- a look at the clock is a line
pub adds_tick : (IsText : PayloadText) (n now : ℕ) (old new : List ℕ) (value : capture.Line) → value ≡ Tick now
    → new ≡ old ++ (decimal n ++ (codes " tick " ++ (decimal now ++ line_end)))
    → (shown : List ℕ) × ShowsValue IsText n value shown × (new ≡ old ++ shown)
adds_tick IsText n now old new value is added =
    let text = decimal n ++ (codes " tick " ++ (decimal now ++ line_end)) in
    (text, subst (λ (v : capture.Line). ShowsValue IsText n v text) (sym is) (tick now), added)
