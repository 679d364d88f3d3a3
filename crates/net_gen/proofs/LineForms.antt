-- What the lines of a generated text ask for.
use Rattle.std.proofs.Common.{◌≡◌, ℕ, zero, suc, ◌+◌, ◌<◌, ◌≤◌, true, List, [], ◌∷◌, ◌++◌, Ok, refl, ap, ◌∙◌, arith, append_assoc}
use Rattle.std.specs.Prelude.{codes, decimal}
use Rattle.std.specs.List.{list_all, AllByRecursion}
use Rattle.std.proofs.lemmas.Fmt.{decimal_digit}
use Rattle.alg_model.specs.Expressions.{number, number_label}
use Rattle.net_graph.specs.Nets.{is_name}
use Rattle.sig_text.specs.Sequences.{parts_of}
use Rattle.sig_text.specs.Spelled.{spelled_label, spelled_value}
use Rattle.topology_file.specs.Texts.{is_not, words_of}
use Rattle.topology_file.specs.Forms.{nodes, link, plain_line, named_nodes, colon_line, line_of}
use Rattle.net_gen.specs.declared.links.Link.{Link}
use Rattle.net_gen.specs.Generated.{node_name, node_line, link_line, origin_lines}
use Rattle.net_gen.specs.Networks.{demo_alg}
use Rattle.net_gen.proofs.Names.{name_word}
use Rattle.net_gen.proofs.Short.{name_short, link_short}
use Rattle.topology_file.specs.LineLaws.{IsWord, IsLine, is_plain, all_joined, words_first, words_one, word_plain, number_word, plain_form, colon_form, colonless}

-- `node A`
pub node_form : (name : List ℕ) → IsWord name → is_name name ≡ true → line_of (codes "node " ++ name) ≡ nodes (name ∷ [])
node_form name i n =
    let named : named_nodes (name ∷ []) ≡ nodes (name ∷ []) = rw n refl in
    plain_form (codes "node " ++ name) (colonless name i) ∙ ap (λ words. plain_line (codes "node" ∷ words)) (words_one name i) ∙ named

-- the words of `link A B `
abbrev link_words : List ℕ → List ℕ → List ℕ
link_words a b = codes "link " ++ (a ++ 32 ∷ (b ++ 32 ∷ []))

link_cut : (a b literal : List ℕ) → codes "link " ++ a ++ codes " " ++ b ++ codes " : " ++ literal ≡ link_words a b ++ 58 ∷ 32 ∷ literal
link_cut a b literal = simp append_assoc

-- `link A B : LABEL`
pub link_form : (a b literal : List ℕ) → IsWord a → IsWord b → is_name a ≡ true → is_name b ≡ true → line_of (codes "link " ++ a ++ codes " " ++ b ++ codes " : " ++ literal) ≡ link a b (32 ∷ literal)
link_form a b literal i j n m =
    let colons : list_all (is_not 58) (link_words a b) ≡ true = all_joined (is_not 58) a (32 ∷ (b ++ 32 ∷ [])) (colonless a i) (all_joined (is_not 58) b (32 ∷ []) (colonless b j) refl) in
    let first : words_of (a ++ 32 ∷ (b ++ 32 ∷ [])) ≡ a ∷ words_of (b ++ 32 ∷ []) = words_first a (32 ∷ (b ++ 32 ∷ [])) i refl in
    let second : words_of (b ++ 32 ∷ []) ≡ b ∷ [] = words_first b (32 ∷ []) j refl in
    let named : colon_line (codes "link" ∷ a ∷ b ∷ []) (32 ∷ literal) ≡ link a b (32 ∷ literal) = rw (n, m) refl in
    ap line_of (link_cut a b literal) ∙ colon_form (link_words a b) (32 ∷ literal) colons
    ∙ ap (λ words. colon_line (codes "link" ∷ words) (32 ∷ literal)) (first ∙ ap (λ words. a ∷ words) second) ∙ named

-- the lines are lines

pub node_is_line : (k : ℕ) → k < 1000 → IsLine (node_line k)
unfolding is_plain
node_is_line k h =
    let short = name_short k h in
    record { plain = word_plain (node_name k) (name_word k (omega arith)); short = omega arith }

plain_link : (a b w : List ℕ) → list_all is_plain a ≡ true → list_all is_plain b ≡ true → list_all is_plain w ≡ true → list_all is_plain (codes "link " ++ a ++ codes " " ++ b ++ codes " : " ++ w) ≡ true
unfolding is_plain
plain_link a b w f g h =
    all_joined is_plain (codes "link " ++ a ++ codes " " ++ b ++ codes " : ") w
    (all_joined is_plain (codes "link " ++ a ++ codes " " ++ b) (codes " : ")
    (all_joined is_plain (codes "link " ++ a ++ codes " ") b
    (all_joined is_plain (codes "link " ++ a) (codes " ") f refl) g) refl) h

pub link_is_line : (l : Link) → l.listener < 1000 → l.speaker < 1000 → l.weight ≤ 9 → IsLine (link_line l)
link_is_line l a b w =
    let short = link_short l a b w in
    let listener = word_plain (node_name l.listener) (name_word l.listener (omega arith)) in
    let speaker = word_plain (node_name l.speaker) (name_word l.speaker (omega arith)) in
    let weight = word_plain (decimal l.weight) (number_word l.weight (omega arith)) in
    record { plain = plain_link (node_name l.listener) (node_name l.speaker) (decimal l.weight) listener speaker weight; short = omega arith }

pub origins_are_lines : AllByRecursion IsLine origin_lines
unfolding is_plain
origins_are_lines = (record { plain = refl; short = omega arith }, (record { plain = refl; short = omega arith }, tt))

-- Literals.

each_digit : (P : ℕ → Type 0) → P 1 → P 2 → P 3 → P 4 → P 5 → P 6 → P 7 → P 8 → P 9 → (w : ℕ) → 1 ≤ w → w ≤ 9 → P w
each_digit P a b c d e f g h i zero l m = absurd (omega arith)
each_digit P a b c d e f g h i (suc zero) l m = a
each_digit P a b c d e f g h i (suc (suc zero)) l m = b
each_digit P a b c d e f g h i (suc (suc (suc zero))) l m = c
each_digit P a b c d e f g h i (suc (suc (suc (suc zero)))) l m = d
each_digit P a b c d e f g h i (suc (suc (suc (suc (suc zero))))) l m = e
each_digit P a b c d e f g h i (suc (suc (suc (suc (suc (suc zero)))))) l m = f
each_digit P a b c d e f g h i (suc (suc (suc (suc (suc (suc (suc zero))))))) l m = g
each_digit P a b c d e f g h i (suc (suc (suc (suc (suc (suc (suc (suc zero)))))))) l m = h
each_digit P a b c d e f g h i (suc (suc (suc (suc (suc (suc (suc (suc (suc zero))))))))) l m = i
each_digit P a b c d e f g h i (suc (suc (suc (suc (suc (suc (suc (suc (suc (suc n)))))))))) l m = absurd (omega arith)

digit_spelled : (w : ℕ) → 1 ≤ w → w ≤ 9 → spelled_label demo_alg (32 ∷ (48 + w) ∷ []) ≡ Ok (number_label w)
unfolding parts_of
digit_spelled = each_digit (λ w. spelled_label demo_alg (32 ∷ (48 + w) ∷ []) ≡ Ok (number_label w)) refl refl refl refl refl refl refl refl refl

-- a printed weight spells the label of that number
pub weight_spelled : (w : ℕ) → 1 ≤ w → w ≤ 9 → spelled_label demo_alg (32 ∷ decimal w) ≡ Ok (number_label w)
weight_spelled w l m = ap (λ ds. spelled_label demo_alg (32 ∷ ds)) (decimal_digit w (omega arith)) ∙ digit_spelled w l m

pub zero_spelled : spelled_value demo_alg (codes " 0") ≡ Ok (number 0)
unfolding parts_of
zero_spelled = refl
