-- The order of rows is total, for the laws of traits.
use Rattle.std.specs.Cmp.{IsTotalOrder, nat_cmp_total, on_total, then_total}
use Rattle.std.specs.Cmp.Lexicographic.{nat_list_cmp_total, options_total}
use Rattle.nb_names.specs.DomainName.{domain_cmp, spelling}
use Rattle.nb_survey.specs.declared.key.Key.{Key}
use Rattle.nb_survey.specs.declared.key.Reason.{Reason}
use Rattle.nb_survey.specs.Keys.{key_cmp, rank, reason_cmp}
use Rattle.nb_survey.specs.Places.{address_cmp, numbers_of, version_of}

pub domain_cmp_total : IsTotalOrder domain_cmp
domain_cmp_total = on_total spelling nat_list_cmp_total

pub address_cmp_total : IsTotalOrder address_cmp
address_cmp_total = then_total (on_total version_of nat_cmp_total) (on_total numbers_of nat_list_cmp_total)

pub reason_cmp_total : IsTotalOrder reason_cmp
reason_cmp_total = then_total (on_total rank nat_cmp_total) (on_total (λ (r : Reason). r.by) address_cmp_total)

pub key_cmp_total : IsTotalOrder key_cmp
key_cmp_total =
    then_total (on_total (λ (k : Key). k.name) domain_cmp_total)
    (then_total (on_total (λ (k : Key). k.address) address_cmp_total) (on_total (λ (k : Key). k.reason) (options_total reason_cmp_total)))
