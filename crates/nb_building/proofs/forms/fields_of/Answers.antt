use Rattle.nb_building.proofs.Common.{sym, forms}
use Rattle.nb_building.proofs.TakenLemmas.{no_form}
use Rattle.nb_building.proofs.forms.fields_of.Goals as goal

pub returns-in_default : goal.returns-in_default
returns-in_default c = sym (no_form forms _ (
  c.in_default.not-query,
  (
    c.in_default.not-status,
    (
      c.in_default.not-registration,
      (
        c.in_default.not-refresh,
        (
          c.in_default.not-release,
          (
            c.in_default.not-response,
            (
              c.in_default.not-request,
              (
                c.in_default.not-message,
                (
                  c.in_default.not-positive,
                  (
                    c.in_default.not-negative,
                    (
                      c.in_default.not-retarget,
                      (
                        c.in_default.not-keepalive,
                        (
                          c.in_default.not-unique,
                          (
                            c.in_default.not-group,
                            (
                              c.in_default.not-broadcast,
                              (c.in_default.not-error, (c.in_default.not-find, (c.in_default.not-found, (c.in_default.not-missing, tt)))),
                            ),
                          ),
                        ),
                      ),
                    ),
                  ),
                ),
              ),
            ),
          ),
        ),
      ),
    ),
  ),
))
