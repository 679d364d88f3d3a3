-- The spaces and comments at the front.
use Rattle.std.proofs.Common.{◌≡◌, inl, inr, ℕ, zero, suc, ◌+◌, ◌<◌, ◌≤◌, ◌==◌, Bool, true, false, not, ◌&&◌, cond, List, [], ◌∷◌, ◌++◌, length, get_or, take, drop, refl, ap, sym, ◌∙◌, arith, length-drop}
use Rattle.std.proofs.Math.Seq.{take-add}
use Rattle.std.proofs.Math.ListN.{drop_of_length-le}
use Rattle.std.proofs.lemmas.List.{append_assoc, append-nil, at_drop_more, drop_more, drop-drop, get_or-drop, take_more}
use Rattle.std.specs.List.{list_all}
use Rattle.std.proofs.lemmas.Bool.{eqb-true}
use Rattle.std.proofs.lemmas.Bool.Decides.{nat_tests}
use Rattle.meta_base.specs.Bytes.{is_line_feed, is_space}
use Rattle.raml_lex.specs.Gaps.{gap_of, after_gap, is_plain_space, IsGap, IsLine}

-- a text is its gap and what comes after it
pub gap_split : (b : Bool) (text : List ℕ) → gap_of b text ++ after_gap b text ≡ text
gap_split true [] = refl
gap_split false [] = refl
gap_split true (c ∷ cs) = ap (λ x. c ∷ x) (gap_split (not (is_line_feed c)) cs)
gap_split false (c ∷ cs) = by (c == 35) (is_space c) (gap_split true cs) (gap_split false cs)
  where
    by : (d e : Bool) → gap_of true cs ++ after_gap true cs ≡ cs → gap_of false cs ++ after_gap false cs ≡ cs
        → cond d (c ∷ gap_of true cs) (cond e (c ∷ gap_of false cs) []) ++ cond d (after_gap true cs) (cond e (after_gap false cs) (c ∷ cs)) ≡ c ∷ cs
    by true e h k = ap (λ x. c ∷ x) h
    by false true h k = ap (λ x. c ∷ x) k
    by false false h k = refl

-- it is only spaces and whole comments
pub gap_is_gap : (b : Bool) (text : List ℕ) → IsGap b (gap_of b text) (after_gap b text)
gap_is_gap true [] = refl
gap_is_gap false [] = tt
gap_is_gap true (c ∷ cs) = gap_is_gap (not (is_line_feed c)) cs
gap_is_gap false (c ∷ cs) = by (c == 35) (is_space c) refl refl (gap_is_gap true cs) (gap_is_gap false cs)
  where
    by : (d e : Bool) → (c == 35) ≡ d → is_space c ≡ e → IsGap true (gap_of true cs) (after_gap true cs) → IsGap false (gap_of false cs) (after_gap false cs)
        → IsGap false (cond d (c ∷ gap_of true cs) (cond e (c ∷ gap_of false cs) [])) (cond d (after_gap true cs) (cond e (after_gap false cs) (c ∷ cs)))
    by true e p q h k = inl (grind (arith, nat_tests), h)
    by false true p q h k = inr (q, k)
    by false false p q h k = tt

-- a gap of a text goes on from one place to another
pub record GapOver (cs : List ℕ) (i j : ℕ) : Type 0 where
  pub gap : take j cs ++ gap_of false (drop j cs) ≡ take i cs ++ gap_of false (drop i cs)
  pub left : after_gap false (drop j cs) ≡ after_gap false (drop i cs)

no_mark : (c : ℕ) → is_space c ≡ true → (c == 35) ≡ false
no_mark c h = by (c == 35) refl
  where
    by : (b : Bool) → (c == 35) ≡ b → b ≡ false
    by true e = absurd (let k : is_space 35 ≡ true = ap is_space (sym (eqb-true c 35 e)) ∙ h in cc)
    by false e = refl

-- over a space
pub over_space : (cs : List ℕ) (i : ℕ) → i < length cs → is_space (get_or cs i 0) ≡ true → GapOver cs i (i + 1)
over_space cs i h s =
    let c = get_or cs i 0 in
    let mark = no_mark c s in
    let gap : gap_of false (drop i cs) ≡ c ∷ gap_of false (drop (i + 1) cs) = at_drop_more (gap_of false) cs i 0 h ∙ rw (mark, s) refl in
    record {
      gap = ap (λ x. x ++ gap_of false (drop (i + 1) cs)) (take_more cs i 0 h) ∙ append_assoc (take i cs) (c ∷ []) (gap_of false (drop (i + 1) cs)) ∙ ap (λ x. take i cs ++ x) (sym gap);
      left = sym (at_drop_more (after_gap false) cs i 0 h ∙ rw (mark, s) refl);
    }

-- and ends at another byte
pub at_other : (cs : List ℕ) (i : ℕ) → i < length cs → is_space (get_or cs i 0) ≡ false → (get_or cs i 0 == 35) ≡ false
    → (gap_of false (drop i cs) ≡ []) × (after_gap false (drop i cs) ≡ drop i cs)
at_other cs i h s mark = (at_drop_more (gap_of false) cs i 0 h ∙ rw (mark, s) refl, at_drop_more (after_gap false) cs i 0 h ∙ rw (mark, s) refl ∙ sym (drop_more cs i 0 h))

no_space : (c : ℕ) → 32 < c → is_space c ≡ false
no_space c h = grind (arith, nat_tests)

-- so it does at a byte above all spaces, but a mark
pub at_higher : (cs : List ℕ) (i : ℕ) → i < length cs → 32 < get_or cs i 0 → (get_or cs i 0 == 35) ≡ false
    → (gap_of false (drop i cs) ≡ []) × (after_gap false (drop i cs) ≡ drop i cs)
at_higher cs i h above mark = at_other cs i h (no_space (get_or cs i 0) above) mark

-- the bytes of a line in a comment
line_read : (cs : List ℕ) (n : ℕ) → IsLine cs n → (gap_of true cs ≡ take n cs ++ gap_of false (drop n cs)) × (after_gap true cs ≡ after_gap false (drop n cs))
line_read [] zero l = (refl, refl)
line_read [] (suc n) l = (refl, refl)
line_read (c ∷ cs) zero l =
    let feed : c ≡ 10 = eqb-true c 10 (l.ends (omega arith)) in
    rw feed (refl, refl)
line_read (c ∷ cs) (suc n) l =
    let inside : is_line_feed c ≡ false = l.in_line 0 (omega arith) in
    let more = line_read cs n (record { within = omega (arith, l.within); in_line = λ k h. l.in_line (suc k) (omega (arith, h)); ends = λ h. l.ends (omega (arith, h)) }) in
    rw inside (ap (λ x. c ∷ x) more.0, more.1)

-- a comment is a mark and the rest of its line
comment_read : (cs : List ℕ) (n : ℕ) → IsLine cs n → 0 < length cs → get_or cs 0 0 ≡ 35 → (0 < n) × (gap_of false cs ≡ take n cs ++ gap_of false (drop n cs)) × (after_gap false cs ≡ after_gap false (drop n cs))
comment_read [] n l some mark = absurd (omega arith)
comment_read (c ∷ cs) zero l some mark = absurd (let feed = l.ends some in let other : is_line_feed c ≡ false = ap is_line_feed mark in cc)
comment_read (c ∷ cs) (suc n) l some mark =
    let more = line_read cs n (record { within = omega (arith, l.within); in_line = λ k h. l.in_line (suc k) (omega (arith, h)); ends = λ h. l.ends (omega (arith, h)) }) in
    rw mark (omega arith, ap (λ x. 35 ∷ x) more.0, more.1)

-- over a comment
pub over_comment : (cs : List ℕ) (i n : ℕ) → i < length cs → get_or cs i 0 ≡ 35 → IsLine (drop i cs) n → (0 < n) × GapOver cs i (i + n)
over_comment cs i n h mark l =
    let first : get_or (drop i cs) 0 0 ≡ 35 = get_or-drop i cs 0 0 ∙ ap (λ k. get_or cs k 0) (omega arith) ∙ mark in
    let read = comment_read (drop i cs) n l (omega (arith, length-drop i cs, h)) first in (
      read.0,
      record {
        gap = ap (λ x. x ++ gap_of false (drop (i + n) cs)) (take-add i n cs) ∙ append_assoc (take i cs) (take n (drop i cs)) (gap_of false (drop (i + n) cs))
            ∙ ap (λ x. take i cs ++ x) (ap (λ x. take n (drop i cs) ++ gap_of false x) (sym (drop-drop n i cs)) ∙ sym read.1);
        left = ap (after_gap false) (sym (drop-drop n i cs)) ∙ sym read.2;
      },
    )

-- one part of a gap after another
pub over_more : (cs : List ℕ) (i j k : ℕ) → GapOver cs i j → GapOver cs j k → GapOver cs i k
over_more cs i j k a b = record { gap = b.gap ∙ a.gap; left = b.left ∙ a.left }

pub over_none : (cs : List ℕ) (i : ℕ) → GapOver cs i i
over_none cs i = record { gap = refl; left = refl }

-- where the gap ends it was read
pub gap_over : (cs : List ℕ) (i j : ℕ) → GapOver cs i j → gap_of false (drop j cs) ≡ [] → after_gap false (drop j cs) ≡ drop j cs
    → (take j cs ≡ take i cs ++ gap_of false (drop i cs)) × (drop j cs ≡ after_gap false (drop i cs))
gap_over cs i j g none left = (sym (append-nil (take j cs)) ∙ ap (λ x. take j cs ++ x) (sym none) ∙ g.gap, sym left ∙ g.left)

-- nothing is left at the end
pub at_end : (cs : List ℕ) (i : ℕ) → length cs ≤ i → (gap_of false (drop i cs) ≡ []) × (after_gap false (drop i cs) ≡ drop i cs)
at_end cs i h = let e : drop i cs ≡ [] = drop_of_length-le cs h in rw e (refl, refl)

plain_space : (c : ℕ) → is_plain_space c ≡ true → is_space c ≡ true
plain_space c h = grind (arith, nat_tests)

-- blanks and line feeds are spaces
pub plain_spaces : (cs : List ℕ) → list_all is_plain_space cs ≡ true → list_all is_space cs ≡ true
plain_spaces [] h = refl
plain_spaces (c ∷ cs) h = by (is_plain_space c) refl (plain_spaces cs) h
  where
    by : (b : Bool) → is_plain_space c ≡ b → (list_all is_plain_space cs ≡ true → list_all is_space cs ≡ true)
        → (b && list_all is_plain_space cs) ≡ true → (is_space c && list_all is_space cs) ≡ true
    by true e rest h = rw (plain_space c e) (rest h)
    by false e rest h = absurd (cc)

-- over several spaces
pub over_spaces : (cs : List ℕ) (i n : ℕ) → i + n ≤ length cs → list_all is_space (take n (drop i cs)) ≡ true → GapOver cs i (i + n)
over_spaces cs i zero h s = let e : i + 0 ≡ i = omega arith in rw e (over_none cs i)
over_spaces cs i (suc n) h s =
    let within : i < length cs = omega arith in
    let both = and_both (is_space (get_or cs i 0)) (list_all is_space (take n (drop (i + 1) cs))) (sym (ap (λ x. list_all is_space (take (suc n) x)) (drop_more cs i 0 within)) ∙ s) in
    let e : i + suc n ≡ i + 1 + n = omega arith in
    rw e (over_more cs i (i + 1) (i + 1 + n) (over_space cs i within both.0) (over_spaces cs (i + 1) n (omega arith) both.1))
  where
    and_both : (a b : Bool) → (a && b) ≡ true → (a ≡ true) × (b ≡ true)
    and_both true true e = (refl, refl)
    and_both true false e = absurd (cc)
    and_both false b e = absurd (cc)
