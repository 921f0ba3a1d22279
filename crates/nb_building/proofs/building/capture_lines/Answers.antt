use Rattle.nb_building.proofs.Common.{◌≡◌, ℕ, Err, None, no_packet, What, forms, kinds_of}
use Rattle.nb_building.proofs.PortLemmas.{datagram_explained, datagram_word, service_explained, service_word, session_explained, session_word}
use Rattle.nb_building.proofs.TakenLemmas.{named_by_none, no_form, tells_much}
use Rattle.nb_building.proofs.building.capture_lines.Goals as goal

-- a word that names no packet
unknown : (c : goal.In_default) → kinds_of c.args.what.now ≡ None
unknown c = no_form forms _ (
  c.in_default.not-query,
  (
    c.in_default.not-status,
    (
      c.in_default.not-registration,
      (
        c.in_default.not-refresh,
        (
          c.in_default.not-release,
          (
            c.in_default.not-response,
            (
              c.in_default.not-request,
              (
                c.in_default.not-message,
                (
                  c.in_default.not-positive,
                  (
                    c.in_default.not-negative,
                    (
                      c.in_default.not-retarget,
                      (
                        c.in_default.not-keepalive,
                        (
                          c.in_default.not-unique,
                          (
                            c.in_default.not-group,
                            (
                              c.in_default.not-broadcast,
                              (c.in_default.not-error, (c.in_default.not-find, (c.in_default.not-found, (c.in_default.not-missing, tt)))),
                            ),
                          ),
                        ),
                      ),
                    ),
                  ),
                ),
              ),
            ),
          ),
        ),
      ),
    ),
  ),
)

pub returns-in-query-clause-why : goal.returns-in-query-clause-why
returns-in-query-clause-why c = service_explained _ _ _ c.service_line.result (service_word _ c.in-query.is) c.service_line.ensures.refused

pub returns-in-request-clause-why : goal.returns-in-request-clause-why
returns-in-request-clause-why c = session_explained _ _ _ c.session_line.result (session_word _ c.in-request.is) c.session_line.ensures.refused

pub returns-in-unique-clause-why : goal.returns-in-unique-clause-why
returns-in-unique-clause-why c = datagram_explained _ _ _ c.datagram_lines.result (datagram_word _ c.in-unique.is) c.datagram_lines.ensures.refused

pub returns-in-query-clause-refused : goal.returns-in-query-clause-refused
returns-in-query-clause-refused c =
    named_by_none _ _ _ c.service_line.result (service_explained _ _ _ c.service_line.result (service_word _ c.in-query.is) c.service_line.ensures.refused)

pub returns-in-request-clause-refused : goal.returns-in-request-clause-refused
returns-in-request-clause-refused c =
    named_by_none _ _ _ c.session_line.result (session_explained _ _ _ c.session_line.result (session_word _ c.in-request.is) c.session_line.ensures.refused)

pub returns-in-unique-clause-refused : goal.returns-in-unique-clause-refused
returns-in-unique-clause-refused c =
    named_by_none _ _ _ c.datagram_lines.result (datagram_explained _ _ _ c.datagram_lines.result (datagram_word _ c.in-unique.is) c.datagram_lines.ensures.refused)

pub returns-in-query-clause-too_long : goal.returns-in-query-clause-too_long
returns-in-query-clause-too_long c = tells_much _ _ _ c.service_line.result c.service_line.ensures.refused

pub returns-in-request-clause-too_long : goal.returns-in-request-clause-too_long
returns-in-request-clause-too_long c = tells_much _ _ _ c.session_line.result c.session_line.ensures.refused

pub returns-in-unique-clause-too_long : goal.returns-in-unique-clause-too_long
returns-in-unique-clause-too_long c = tells_much _ _ _ c.datagram_lines.result c.datagram_lines.ensures.refused

pub returns-in_default-clause-why : goal.returns-in_default-clause-why
returns-in_default-clause-why c = no_packet (unknown c)

pub returns-in_default-clause-refused : goal.returns-in_default-clause-refused
returns-in_default-clause-refused c = named_by_none {T = ℕ} _ _ _ (Err What) (no_packet (unknown c))
