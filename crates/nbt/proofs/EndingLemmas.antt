-- What ending over counted streams does to the streams that were lent.
use Rattle.nbt.proofs.Common.{◌≡◌, ◌≢◌, ◌≤◌, ◌⊎◌, inl, inr, ℕ, List, Option, true, refl, sym, ap, subst, arith, Keeps, Text, takes, CountedOf, Counts, no_calls, Keeps-same, Status, BadUsage, Done, Failed, Refused}
use Rattle.nbt_usage.specs.CommandLine.{AreMisused, AreAlone, nbt_app}
use Rattle.nbt_command.specs.Streams.{Streams, streams}
use Rattle.nbt.specs.Commands.{EndedBy}
use Rattle.nbt.specs.Ending.{Ends}
use Rattle.nbt_command.specs.Status.{code_of}

two_is_usage : (status : Status) → code_of status ≡ 2 → status ≡ BadUsage
two_is_usage Done e = absurd (omega arith)
two_is_usage Refused e = absurd (omega arith)
two_is_usage BadUsage e = refl
two_is_usage Failed e = absurd (omega arith)

within : (status : Status) → code_of status ≤ 3
within Done = omega arith
within Refused = omega arith
within BadUsage = omega arith
within Failed = omega arith

code_of_misuse : (status : Status) → (status ≡ BadUsage) ⊎ (status ≡ Failed) → (code_of status ≡ 2) ⊎ (code_of status ≡ 3)
code_of_misuse status (inl usage) = inl (ap code_of usage)
code_of_misuse status (inr failed) = inr (ap code_of failed)

module _ {R W : Type 0} (I : R → Option (List ℕ)) (O : W → Option (List ℕ)) (words : List Text) where
  -- what is promised of the program over counted streams
  pub record EndsCounted (i j : CountedOf R) (o p : CountedOf W) (status : Status) : Type 0 where
    pub ran : takes nbt_app words ≡ true → EndedBy words (streams I O i j o p) status
    pub alone : AreAlone words → status ≢ BadUsage
    pub usage : status ≡ BadUsage → Keeps (O o.inner) (O p.inner)
    pub misused : AreMisused words → ((status ≡ BadUsage) ⊎ (status ≡ Failed)) × (j ≡ i) × Keeps (O o.inner) (O p.inner)

  -- of streams of which no call was counted before
  over : (i j : CountedOf R) (o p : CountedOf W) (status : Status) → i.counts ≡ no_calls → o.counts ≡ no_calls → EndsCounted i j o p status
      → Ends words (I i.inner) (I j.inner) (O o.inner) (O p.inner) (code_of status)
  over i j o p status reads writes run = record {
    ran = λ taken. record {
      reads = j.counts;
      writes = p.counts;
      status = status;
      ran =
          let at : Counts → Counts → Streams = λ a b. record (streams I O i j o p) { reads = a; writes = b } in
          subst (λ a. EndedBy words (at a no_calls) status) reads (subst (λ b. EndedBy words (at i.counts b) status) writes (run.ran taken));
      is = refl;
    };
    alone = λ is two. run.alone is (two_is_usage status two);
    usage = λ two. run.usage (two_is_usage status two);
    misused = λ is.
        let end = run.misused is in
        (code_of_misuse status end.0, subst (λ (k : CountedOf R). Keeps (I i.inner) (I k.inner)) (sym end.1) (Keeps-same (I i.inner)), end.2);
    within = within status;
  }

  pub ends_lent : (i j : CountedOf R) (o p : CountedOf W) (r s : R) (w x : W) (status : Status) (code : ℕ) → i.inner ≡ r → i.counts ≡ no_calls → s ≡ j.inner → o.inner ≡ w
      → o.counts ≡ no_calls → x ≡ p.inner → code ≡ code_of status → EndsCounted i j o p status → Ends words (I r) (I s) (O w) (O x) code
  ends_lent i j o p r s w x status code was reads now held writes holds is run =
      rw (← was, now, ← held, holds, is) (over i j o p status reads writes run)
