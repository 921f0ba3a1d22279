use Rattle.std.proofs.Common.{◌≡◌, ◌∙◌, ℕ, ap, ap₂}
use Rattle.std.proofs.lemmas.Result.{on_ok_weaker}
use Rattle.nb_telling.specs.Telling.{Field, FieldTag, Number}
use Rattle.nbt_look.proofs.last.tell_packets.Goals as goal

-- three numbers, one after another
three_told : {S : Type 0} (after : S → Field → S) (s0 s1 s2 s3 : S) (t1 t2 t3 u1 u2 u3 : FieldTag) (l m n : ℕ) → t1 ≡ u1 → t2 ≡ u2 → t3 ≡ u3
    → s1 ≡ after s0 (Number t1 l) → s2 ≡ after s1 (Number t2 m) → s3 ≡ after s2 (Number t3 n)
    → s3 ≡ after (after (after s0 (Number u1 l)) (Number u2 m)) (Number u3 n)
three_told {S} after s0 s1 s2 s3 t1 t2 t3 u1 u2 u3 l m n a b c first second third =
    let one = first ∙ ap (λ (t : FieldTag). after s0 (Number t l)) a in
    let two = second ∙ ap₂ (λ (s : S) (t : FieldTag). after s (Number t m)) one b in
    third ∙ ap₂ (λ (s : S) (t : FieldTag). after s (Number t n)) two c

pub returns : goal.returns
returns g c =
    on_ok_weaker c.number-3.result
    (λ told. three_told g.S.Sink.after _ _ _ _ _ _ _ _ _ _ _ _ _ c.bare.ensures c.bare-2.ensures c.bare-3.ensures c.in_ok-number.ensures.told
    c.in_ok-number-2.ensures.told told)
    c.number-3.ensures.told
