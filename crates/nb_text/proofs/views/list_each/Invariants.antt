use Rattle.std.proofs.Common.{◌≡◌, ◌++◌, List, map, take}
use Rattle.nb_text.specs.declared.brief.gist.Listed.{Listed}
use Rattle.nb_text.specs.ServiceSaid.{few}
use Rattle.nb_text.proofs.views.list_each.Given as goal

abbrev pub invariant-loop-place : goal.invariant-loop-place
invariant-loop-place g l =
    (items : List Listed) → l.fn.listed ≡ few items → l.listed ≡ few (items ++ map g.P.Part.ViewPart.listed (take l.place (g.P.ViewParts.parts l.parts)))
