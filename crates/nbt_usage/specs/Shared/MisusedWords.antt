-- Words that clap refuses, and that ask for no help and no version, are a bad command line.
use Rattle.std.proofs.Common.{◌≡◌, ◌≢◌, ◌⊎◌, inl, inr, [], ◌∷◌, true, false, true≢false, refl, sym, ap, ◌∙◌, codes, subst, ℕ, List, Option}
use Rattle.std.specs.Io.KnownBytes.{Keeps}
use Rattle.clap.specs.Words.{Text, kind_of, takes}
use Rattle.nbt_command.specs.declared.fault.Status.{Status}
use Rattle.nbt_command.specs.declared.fault.Status.TheVariants.{BadUsage, Failed}
use Rattle.clap.specs.Words.{App}
use Rattle.std.proofs.Math.Bool.{and-false}
use Rattle.clap.specs.Faults.{fault_of, is_simple_and_free}
use Rattle.clap.specs.Kinds.{HasKind, IsAmong}
use Rattle.clap.proofs.OnLiterals.{clap_on_literals}
use Rattle.clap.specs.declared.error.Error.{Error}
use Rattle.clap.specs.declared.error.kind.ErrorKind.{ErrorKind}
use Rattle.clap.specs.declared.error.kind.ErrorKind.TheVariants as kind
use Rattle.nbt_usage.specs.CommandLine.{nbt_app, AreMisused, Reports, answer_to}
use Rattle.nbt_usage.specs.Refusals.{AsksRefusal}

-- clap's function says of this command line how words fail
pub nbt_is_free : is_simple_and_free nbt_app ≡ true
unfolding clap_on_literals
nbt_is_free = refl

asks_help : (program : Text) (words : List Text) → IsAmong kind.DisplayHelp (fault_of nbt_app (program ∷ codes "help" ∷ words))
unfolding clap_on_literals
asks_help program words = inl refl

untaken : (program : Text) (words : List Text) → takes nbt_app (program ∷ codes "help" ∷ words) ≡ false
unfolding clap_on_literals
untaken program words = and-false _

-- words that ask for a refusal's line ask for help
pub asked_is_help : (words : List Text) → AsksRefusal words → AreMisused words → ⊥
asked_is_help words (program, text, rest, is) misused =
    misused.no_help (subst (λ (w : List Text). IsAmong kind.DisplayHelp (fault_of nbt_app w)) (sym is) (asks_help program (text ∷ rest)))

-- they are none that clap takes
pub asked_is_untaken : (words : List Text) → AsksRefusal words → takes nbt_app words ≡ true → ⊥
asked_is_untaken words (program, text, rest, is) taken =
    true≢false (sym taken ∙ ap (takes nbt_app) is ∙ untaken program (text ∷ rest))

-- clap took the words
pub taken_is_no_misuse : (app : App) (words : List Text) → app ≡ nbt_app → (is_simple_and_free app ≡ true → fault_of app words ≡ []) → AreMisused words → ⊥
taken_is_no_misuse app words is none misused =
    let here : is_simple_and_free nbt_app ≡ true → fault_of nbt_app words ≡ [] = subst (λ (a : App). is_simple_and_free a ≡ true → fault_of a words ≡ []) is none in
    misused.refused (here nbt_is_free)

abbrev IsEnd : Status → Option (List ℕ) → Option (List ℕ) → Type 0
IsEnd status old new = ((status ≡ BadUsage) ⊎ (status ≡ Failed)) × Keeps old new

among : (e : Error) (words : List Text) → HasKind (fault_of nbt_app words) e → AreMisused words → (kind_of e ≢ kind.DisplayHelp) × (kind_of e ≢ kind.DisplayVersion)
among e words (inl memory) misused = ((λ is. absurd (cc (is, memory))), (λ is. absurd (cc (is, memory))))
among e words (inr is_among) misused = (
  (λ is. misused.no_help (subst (λ (k : ErrorKind). IsAmong k (fault_of nbt_app words)) is is_among)),
  (λ is. misused.no_version (subst (λ (k : ErrorKind). IsAmong k (fault_of nbt_app words)) is is_among)),
)

ends : (k : ErrorKind) (status : Status) (old new : Option (List ℕ)) → (k ≢ kind.DisplayHelp) × (k ≢ kind.DisplayVersion) → Reports (answer_to k) status old new → IsEnd status old new
ends kind.DisplayHelp status old new unasked reported = absurd (unasked.0 refl)
ends kind.DisplayVersion status old new unasked reported = absurd (unasked.1 refl)
ends kind.OutOfMemory status old new unasked reported = (inr reported.0, reported.1)
ends _ status old new unasked reported = (inl reported.0, reported.1)

-- clap refused the words
pub misused_end : (app : App) (words : List Text) (e : Error) (status : Status) (old new : Option (List ℕ)) → app ≡ nbt_app
    → (is_simple_and_free app ≡ true → HasKind (fault_of app words) e) → AreMisused words → Reports (answer_to (kind_of e)) status old new → IsEnd status old new
misused_end app words e status old new is fails misused reported =
    let here : is_simple_and_free nbt_app ≡ true → HasKind (fault_of nbt_app words) e = subst (λ (a : App). is_simple_and_free a ≡ true → HasKind (fault_of a words) e) is fails in
    ends (kind_of e) status old new (among e words (here nbt_is_free) misused) reported
