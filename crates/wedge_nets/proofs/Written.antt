-- The text of a verdict, as it is written: piece by piece, and after a look at its first line alone.
use Rattle.std.proofs.Common.{◌≡◌, ℕ, List, [], ◌++◌, Result, Ok, Err, OnOk, append_assoc}
use Rattle.std.specs.Prelude.{codes}
use Rattle.std.proofs.lemmas.List.{append-nil}
use Rattle.alg_model.specs.Carriers.{carrier_of}
use Rattle.alg_model.specs.Expressions.{Expression, PureLabel, PureValue}
use Rattle.alg_model.specs.Texts.{value_text, label_text}
use Rattle.topology_file.specs.LineTexts.{ended, text_of}
use Rattle.wedge_nets.specs.GadgetTexts.{wedge_lines}

seven : (start a b c d e f g : List ℕ) → start ++ a ++ b ++ c ++ d ++ e ++ f ++ g ≡ start ++ (a ++ (b ++ (c ++ (d ++ (e ++ (f ++ (g ++ [])))))))
seven start a b c d e f g = rw (append-nil g) (simp append_assoc)

-- the lines of a wedge, one after another
pub wedge_written : {E : Type 0} (r : Result (Unit {0}) E) (x : Expression) (l : PureLabel) (v : PureValue) (start a b c d e f g : List ℕ)
    → a ≡ start ++ codes "node p q\n" → b ≡ a ++ ended (codes "link p q : " ++ label_text x l)
    → c ≡ b ++ ended (codes "origin x at p : " ++ value_text (carrier_of x) v) → d ≡ c ++ ended (codes "origin x at q : " ++ value_text (carrier_of x) v)
    → e ≡ d ++ ended (codes "then link q p : " ++ label_text x l) → f ≡ e ++ codes "then drop p q\n"
    → OnOk r (g ≡ f ++ ended (codes "then link p q : " ++ label_text x l))
    → OnOk r (g ≡ start ++ text_of (wedge_lines x l v))
wedge_written (Ok u) x l v start a b c d e f g h i j k m n last =
    rw (last, n, m, k, j, i, h)
    (seven start (codes "node p q\n") (ended (codes "link p q : " ++ label_text x l)) (ended (codes "origin x at p : " ++ value_text (carrier_of x) v))
    (ended (codes "origin x at q : " ++ value_text (carrier_of x) v)) (ended (codes "then link q p : " ++ label_text x l)) (codes "then drop p q\n")
    (ended (codes "then link p q : " ++ label_text x l)))
wedge_written (Err u) x l v start a b c d e f g h i j k m n last = tt
