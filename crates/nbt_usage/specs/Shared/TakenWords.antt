-- Words that clap takes: which subcommand is entered, and that those of a command that may stand alone are taken.
use Rattle.std.proofs.Common.{◌≡◌, ◌≢◌, ◌∙◌, inl, inr, [], ◌∷◌, true, refl, ap, codes, ℕ, List, Option}
use Rattle.std.specs.Fmt.{digits}
use Rattle.clap.specs.Words.{HasMatchesOf, Text, is_simple, subcommand_of, subcommand_rows_of, takes}
use Rattle.clap.specs.declared.parser.matches.ArgMatches.{ArgMatches}
use Rattle.clap.specs.declared.error.kind.ErrorKind.{ErrorKind}
use Rattle.clap.specs.declared.error.kind.ErrorKind.TheVariants.{OutOfMemory}
use Rattle.clap.proofs.OnLiterals.{clap_on_literals}
use Rattle.nbt_command.specs.declared.fault.Status.{Status}
use Rattle.nbt_command.specs.declared.fault.Status.TheVariants.{BadUsage, Failed}
use Rattle.nbt_usage.specs.CommandLine.{IsAlone, Reports, answer_to, nbt_app}

-- clap's functions say of this command line which subcommand is entered
pub nbt_is_simple : is_simple nbt_app ≡ true
unfolding clap_on_literals
nbt_is_simple = refl

pub rows_of_words : (words : List Text) (m : ArgMatches) → HasMatchesOf nbt_app words m → subcommand_rows_of m ≡ subcommand_of nbt_app words
rows_of_words words m has = (has nbt_is_simple).1

-- ---- the command line takes a subcommand that may stand alone, and clap fails then only where memory ran out

show_is_taken : (program : Text) → takes nbt_app (program ∷ codes "show" ∷ []) ≡ true
unfolding clap_on_literals
show_is_taken program = refl

save_is_taken : (program : Text) → takes nbt_app (program ∷ codes "save" ∷ []) ≡ true
unfolding clap_on_literals digits
save_is_taken program = refl

merge_is_taken : (program : Text) → takes nbt_app (program ∷ codes "merge" ∷ []) ≡ true
unfolding clap_on_literals digits
merge_is_taken program = refl

list_is_taken : (program : Text) → takes nbt_app (program ∷ codes "list" ∷ []) ≡ true
unfolding clap_on_literals digits
list_is_taken program = refl

agree_is_taken : (program : Text) → takes nbt_app (program ∷ codes "agree" ∷ []) ≡ true
unfolding clap_on_literals
agree_is_taken program = refl

pub alone_is_taken : (program word : Text) → IsAlone word → takes nbt_app (program ∷ word ∷ []) ≡ true
alone_is_taken program word (inl is_show) = ap (λ w. takes nbt_app (program ∷ w ∷ [])) is_show ∙ show_is_taken program
alone_is_taken program word (inr (inl is_save)) = ap (λ w. takes nbt_app (program ∷ w ∷ [])) is_save ∙ save_is_taken program
alone_is_taken program word (inr (inr (inl is_merge))) = ap (λ w. takes nbt_app (program ∷ w ∷ [])) is_merge ∙ merge_is_taken program
alone_is_taken program word (inr (inr (inr (inl is_list)))) = ap (λ w. takes nbt_app (program ∷ w ∷ [])) is_list ∙ list_is_taken program
alone_is_taken program word (inr (inr (inr (inr is_agree)))) = ap (λ w. takes nbt_app (program ∷ w ∷ [])) is_agree ∙ agree_is_taken program

failed_of : (kind : ErrorKind) (status : Status) (old new : Option (List ℕ)) → kind ≡ OutOfMemory
    → Reports (answer_to kind) status old new → status ≡ Failed
failed_of kind status old new is reported = (rw is at reported).0

pub no_usage_for_memory : (kind : ErrorKind) (status : Status) (old new : Option (List ℕ)) → kind ≡ OutOfMemory
    → Reports (answer_to kind) status old new → status ≢ BadUsage
no_usage_for_memory kind status old new is reported usage =
    let failed = failed_of kind status old new is reported in absurd (cc (failed, usage))
