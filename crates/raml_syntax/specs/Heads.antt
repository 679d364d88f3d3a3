-- Which words the program's heads stand for.
use Rattle.std.specs.Prelude.{ℕ, List, [], ◌∷◌, codes}
use Rattle.raml_syntax.specs.declared.heads.Ranged as code_ranged
use Rattle.raml_syntax.specs.declared.heads.Ranged.TheVariants as r
use Rattle.raml_syntax.specs.declared.heads.Counted as code_counted
use Rattle.raml_syntax.specs.declared.heads.Counted.TheVariants as c
use Rattle.raml_syntax.specs.declared.heads.Paired as code_paired
use Rattle.raml_syntax.specs.declared.heads.Paired.TheVariants as p
use Rattle.raml_syntax.specs.declared.heads.Single as code_single
use Rattle.raml_syntax.specs.declared.heads.Single.TheVariants as s
use Rattle.raml_syntax.specs.declared.heads.Head.{Head}
use Rattle.raml_syntax.specs.declared.heads.Head.TheVariants as h
use Rattle.raml_syntax.specs.Syntax.{Ranged, cap_head, worst_head, width_head, ranged_word, Counted, lp_head, op_head, seq_head, simseq_head, tags_head, guard_head, counted_word}
use Rattle.raml_syntax.specs.Syntax.{Paired, lex_head, scoped_head, union_head, sum_head, plus_head, paired_word, Single, left_head, right_head, single_word}

abbrev pub ranged_of : code_ranged.Ranged → Ranged
ranged_of r.Cap = cap_head
ranged_of r.Worst = worst_head
ranged_of r.Width = width_head

abbrev pub counted_of : code_counted.Counted → Counted
counted_of c.Pref = lp_head
counted_of c.Orig = op_head
counted_of c.Seq = seq_head
counted_of c.SimSeq = simseq_head
counted_of c.Tags = tags_head
counted_of c.Guard = guard_head

abbrev pub paired_of : code_paired.Paired → Paired
paired_of p.Lex = lex_head
paired_of p.Scoped = scoped_head
paired_of p.Union = union_head
paired_of p.Sum = sum_head
paired_of p.Plus = plus_head

abbrev pub single_of : code_single.Single → Single
single_of s.Left = left_head
single_of s.Right = right_head

abbrev pub head_word : Head → List ℕ
head_word h.Add = codes "add"
head_word (h.Ranged k) = ranged_word (ranged_of k)
head_word (h.Counted k) = counted_word (counted_of k)
head_word h.Gate = codes "gate"
head_word h.Table = codes "table"
head_word (h.Paired k) = paired_word (paired_of k)
head_word (h.Single k) = single_word (single_of k)

abbrev pub base_words : List (List ℕ)
base_words =
    codes "add" ∷ codes "cap" ∷ codes "worst" ∷ codes "width" ∷ codes "lp" ∷ codes "op" ∷ codes "seq" ∷ codes "simseq" ∷ codes "tags" ∷ codes "guard" ∷
    codes "gate" ∷ codes "table" ∷ []

abbrev pub operator_words : List (List ℕ)
operator_words = codes "lex" ∷ codes "scoped" ∷ codes "union" ∷ codes "sum" ∷ codes "plus" ∷ codes "left" ∷ codes "right" ∷ []
