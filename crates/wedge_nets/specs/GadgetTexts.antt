-- The text of a verdict on monotone: a comment, and the wedge's network file where the verdict is no.
use Rattle.std.specs.Prelude.{ℕ, List, [], ◌∷◌, ◌++◌, Bool, if◌then◌else◌, nat_le, length, codes}
use Rattle.std.specs.List.{list_all}
use Rattle.alg_model.specs.Carriers.{carrier_of}
use Rattle.alg_model.specs.Expressions.{Expression, PureAlg, PureLabel, PureValue}
use Rattle.alg_model.specs.Texts.{value_text, label_text}
use Rattle.alg_model.specs.Verdicts.{PureInstance, PureVerdict, holds, fails}
use Rattle.topology_file.specs.LineTexts.{ended, text_of}
use Rattle.topology_file.specs.Numbers.{max_line_bytes}
use Rattle.report_text.specs.VerdictTexts.{instance_text}

-- the lines of the wedge's network file
abbrev pub wedge_lines : Expression → PureLabel → PureValue → List (List ℕ)
wedge_lines a l v =
    codes "node p q"
    ∷ (codes "link p q : " ++ label_text a l)
    ∷ (codes "origin x at p : " ++ value_text (carrier_of a) v)
    ∷ (codes "origin x at q : " ++ value_text (carrier_of a) v)
    ∷ (codes "then link q p : " ++ label_text a l)
    ∷ codes "then drop p q"
    ∷ (codes "then link p q : " ++ label_text a l)
    ∷ []

-- the verdict's line, as a comment
abbrev pub no_line : Expression → PureInstance → List ℕ
no_line a x = codes "# monotone no: " ++ instance_text a x

-- and with it the lines of the wedge of the instance's label and value
abbrev pub gadget_lines : Expression → PureInstance → List (List ℕ)
gadget_lines a x = no_line a x ∷ wedge_lines a x.label x.first

-- none of the lines is too long for a network file
abbrev pub are_short : List (List ℕ) → Bool
are_short lines = list_all (λ line. nat_le (length line) max_line_bytes) lines

-- where a network file can hold no such lines
abbrev pub no_file_line : List ℕ
no_file_line = codes "# monotone no: no network file holds this instance"

abbrev pub gadget_text : PureAlg → PureVerdict → List ℕ
gadget_text alg holds = ended (codes "# monotone yes")
gadget_text alg (fails x) =
    if are_short (gadget_lines alg.expression x) then text_of (gadget_lines alg.expression x) else ended no_file_line
