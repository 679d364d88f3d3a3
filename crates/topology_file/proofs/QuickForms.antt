-- How the line of an arc at the front of a text is read in one pass.
use Rattle.std.proofs.Common.{◌≡◌, ◌<◌, ◌≤◌, ◌+◌, ◌-◌, ℕ, zero, suc, Bool, true, false, not, cond, eqb, nat_le, ◌||◌, ◌&&◌, if◌then◌else◌, List, [], ◌∷◌, ◌++◌, length, get_or, take, drop, inl, inr, refl, ap, sym, ◌∙◌, subst, arith, length-append}
use Rattle.std.specs.List.{list_all}
use Rattle.std.proofs.lemmas.Bool.Decides.{nat_tests}
use Rattle.std.proofs.lemmas.List.{append-nil, append_assoc}
use Rattle.meta_base.specs.Bytes.{is_blank, front, after_front}
use Rattle.net_graph.specs.Nets.{is_name, is_name_byte}
use Rattle.topology_file.specs.Numbers.{max_line_bytes}
use Rattle.topology_file.specs.Texts.{is_not, ends_word, lines_of, said_of, without_return, words_of}
use Rattle.topology_file.specs.Forms.{line_of, colon_line, short_line}
use Rattle.topology_file.specs.QuickForms.{words_before, from_colon, is_said_byte, is_said_before, begins_with, ends_name, has_name_length, word_of, BeginsNamed, IsColonThen, IsUnsaid, IsAfterEnd, EndsLine, BeginsWithLine}
use Rattle.topology_file.specs.Keys.{key_from, AreBytes, IsKeyed}
use Rattle.topology_file.specs.Views.{arc_form}
use Rattle.topology_file.specs.LineLaws.{IsWord, is_plain, both_true, all_pass, all_joined, front_through, after_through, first_line, says_itself, words_first, word_front, word_after, colon_form}
use Rattle.topology_file.specs.declared.forms.Ways.{Ways}
use Rattle.topology_file.specs.declared.forms.Ways.TheVariants.{One, Both}
use Rattle.topology_file.proofs.Splits.{lines_split}

-- blanks at the front add no word, and no colon is among them
pub blanks_skip : (cs : List ℕ) → (words_before cs ≡ words_before (after_front is_blank cs)) × (from_colon cs ≡ from_colon (after_front is_blank cs))
blanks_skip [] = (refl, refl)
blanks_skip (c ∷ cs) = by (is_blank c) refl (blanks_skip cs)
  where
    by : (b : Bool) → is_blank c ≡ b → (words_before cs ≡ words_before (after_front is_blank cs)) × (from_colon cs ≡ from_colon (after_front is_blank cs))
        → (words_before (c ∷ cs) ≡ words_before (after_front is_blank (c ∷ cs))) × (from_colon (c ∷ cs) ≡ from_colon (after_front is_blank (c ∷ cs)))
    by true e rest =
        let other : eqb c 58 ≡ false = grind (arith, nat_tests) in
        rw (other, e) rest
    by false e rest = rw e (refl, refl)

-- all bytes of a front pass
pub front_passes : (p : ℕ → Bool) (cs : List ℕ) → list_all p (front p cs) ≡ true
front_passes p [] = refl
front_passes p (c ∷ cs) = by (p c) refl (front_passes p cs)
  where
    by : (b : Bool) → p c ≡ b → list_all p (front p cs) ≡ true → list_all p (front p (c ∷ cs)) ≡ true
    by true e rest = rw (e, e) rest
    by false e rest = rw e refl

-- a front and what comes after it are the whole
split_back : (p : ℕ → Bool) (cs : List ℕ) → front p cs ++ after_front p cs ≡ cs
split_back p [] = refl
split_back p (c ∷ cs) = by (p c) (split_back p cs)
  where
    by : (b : Bool) → front p cs ++ after_front p cs ≡ cs → cond b (c ∷ front p cs) [] ++ cond b (after_front p cs) (c ∷ cs) ≡ c ∷ cs
    by true h = ap (λ xs. c ∷ xs) h
    by false h = refl

-- bytes of names, and blanks, are no colons, and end no line
said_name : (c : ℕ) → is_name_byte c ≡ true → (eqb c 58 ≡ false) × (is_said_byte c ≡ true)
said_name c e =
    let feed : eqb c 10 ≡ false = grind (arith, nat_tests) in
    let return : eqb c 13 ≡ false = grind (arith, nat_tests) in
    let comment : eqb c 35 ≡ false = grind (arith, nat_tests) in
    let colon : eqb c 58 ≡ false = grind (arith, nat_tests) in
    (colon, rw (feed, return, comment) refl)

said_blank : (c : ℕ) → is_blank c ≡ true → (eqb c 58 ≡ false) × (is_said_byte c ≡ true)
said_blank c e =
    let feed : eqb c 10 ≡ false = grind (arith, nat_tests) in
    let return : eqb c 13 ≡ false = grind (arith, nat_tests) in
    let comment : eqb c 35 ≡ false = grind (arith, nat_tests) in
    let colon : eqb c 58 ≡ false = grind (arith, nat_tests) in
    (colon, rw (feed, return, comment) refl)

or_left : (a b : Bool) → a || b ≡ true → b ≡ false → a ≡ true
or_left a b h k = grind arith

and_both : (a b : Bool) → a ≡ true → b ≡ true → a && b ≡ true
and_both a b h k = grind arith

and_left : (a b : Bool) → a && b ≡ true → a ≡ true
and_left a b h = grind arith

said_more : (c : ℕ) (cs : List ℕ) → eqb c 58 ≡ false → is_said_byte c ≡ true → is_said_before cs ≡ true → is_said_before (c ∷ cs) ≡ true
said_more c cs e f h =
    let whole : front (is_not 58) (c ∷ cs) ≡ c ∷ front (is_not 58) cs = rw e refl in
    ap (list_all is_said_byte) whole ∙ and_both (is_said_byte c) (is_said_before cs) f h

said_skip : (p : ℕ → Bool) (cs : List ℕ) → ((c : ℕ) → p c ≡ true → (eqb c 58 ≡ false) × (is_said_byte c ≡ true)) → is_said_before (after_front p cs) ≡ true → is_said_before cs ≡ true
said_skip p [] f h = h
said_skip p (c ∷ cs) f h = by (p c) refl h (said_skip p cs f)
  where
    by : (b : Bool) → p c ≡ b → is_said_before (cond b (after_front p cs) (c ∷ cs)) ≡ true → (is_said_before (after_front p cs) ≡ true → is_said_before cs ≡ true) → is_said_before (c ∷ cs) ≡ true
    by true e g more = let k = f c e in said_more c cs k.0 k.1 (more g)
    by false e g more = g

-- a word ends where a name does
ends_front : (rest : List ℕ) → ends_name rest ≡ true → ends_word (front (is_not 58) rest) ≡ true
ends_front [] e = absurd (cc)
ends_front (c ∷ cs) e = by (eqb c 58) refl
  where
    by : (b : Bool) → eqb c 58 ≡ b → ends_word (cond (not b) (c ∷ front (is_not 58) cs) []) ≡ true
    by true f = refl
    by false f = or_left (is_blank c) (eqb c 58) e f

-- a name at the front is a word, if a blank or a colon comes after it
named_front : (name rest : List ℕ) → IsWord name → is_name name ≡ true → ends_name rest ≡ true → BeginsNamed (name ++ rest) name rest
named_front name rest w named ends = record {
  words = ap words_of (word_front name rest w) ∙ words_first name (front (is_not 58) rest) w (ends_front rest ends);
  colon = word_after name rest w;
  said = λ h. ap (list_all is_said_byte) (word_front name rest w)
      ∙ all_joined is_said_byte name (front (is_not 58) rest) (all_pass is_name_byte is_said_byte name (λ c e. (said_name c e).1) w.bytes) h;
  is_named = named;
}

-- and so after blanks
after_blanks_named : (text name rest : List ℕ) → BeginsNamed (after_front is_blank text) name rest → BeginsNamed text name rest
after_blanks_named text name rest b =
    let skip = blanks_skip text in
    record {
      words = skip.0 ∙ b.words;
      colon = skip.1 ∙ b.colon;
      said = λ h. said_skip is_blank text said_blank (b.said h);
      is_named = b.is_named;
    }

-- the name at the front of a text, and what comes after it
pub begins_named : (text inner name rest : List ℕ) → inner ≡ after_front is_blank text → name ≡ front is_name_byte inner → rest ≡ after_front is_name_byte inner
    → has_name_length name ≡ true → ends_name rest ≡ true → BeginsNamed text name rest
begins_named text inner name rest e f g long ends =
    let whole : name ++ rest ≡ inner = rw (f, g) (split_back is_name_byte inner) in
    let bytes : list_all is_name_byte name ≡ true = ap (list_all is_name_byte) f ∙ front_passes is_name_byte inner in
    let first = and_left (nat_le 1 (length name)) (nat_le (length name) 32) long in
    let some : 0 < length name = grind (arith, nat_tests) in
    let word : IsWord name = record { bytes = bytes; some = some } in
    after_blanks_named text name rest (subst (λ (x : List ℕ). BeginsNamed x name rest) (whole ∙ e) (named_front name rest word (and_both (has_name_length name) (list_all is_name_byte name) long bytes) ends))

-- the first words of lines of arcs
pub link_first : (text rest : List ℕ) → text ≡ 108 ∷ 105 ∷ 110 ∷ 107 ∷ rest → ends_name rest ≡ true → BeginsNamed text (word_of One) rest
link_first text rest e ends = rw e (named_front (word_of One) rest (record { bytes = refl; some = omega arith }) refl ends)

pub both_first : (text rest : List ℕ) → text ≡ 98 ∷ 111 ∷ 116 ∷ 104 ∷ rest → ends_name rest ≡ true → BeginsNamed text (word_of Both) rest
both_first text rest e ends = rw e (named_front (word_of Both) rest (record { bytes = refl; some = omega arith }) refl ends)

-- a colon after blanks
pub colon_then : (text rest : List ℕ) → rest ≡ after_front is_blank text → begins_with 58 rest ≡ true → IsColonThen text (drop 1 rest)
colon_then text [] e h = absurd (cc)
colon_then text (c ∷ cs) e h =
    let skip = blanks_skip text in
    let colon : c ≡ 58 = grind (arith, nat_tests) in
    let whole : after_front is_blank text ≡ 58 ∷ cs = sym e ∙ ap (λ x. x ∷ cs) colon in
    record {
      words = skip.0 ∙ ap words_before whole;
      colon = skip.1 ∙ ap from_colon whole;
      said = said_skip is_blank text said_blank (ap is_said_before whole);
    }

said_plain : (c : ℕ) → is_said_byte c ≡ true → is_plain c ≡ true
unfolding is_plain
said_plain c h =
    let t = both_true (is_not 10 c && is_not 13 c) (is_not 35 c) h in
    let u = both_true (is_not 10 c) (is_not 13 c) t.0 in
    rw (u.0, u.1, t.1) refl

said_no_feed : (c : ℕ) → is_said_byte c ≡ true → is_not 10 c ≡ true
said_no_feed c h = (both_true (is_not 10 c) (is_not 13 c) (both_true (is_not 10 c && is_not 13 c) (is_not 35 c) h).0).0

said_no_comment : (c : ℕ) → is_said_byte c ≡ true → is_not 35 c ≡ true
said_no_comment c h = (both_true (is_not 10 c && is_not 13 c) (is_not 35 c) h).1

-- a text of one line
lines_one : (line : List ℕ) → 0 < length line → list_all (is_not 10) line ≡ true → lines_of line ≡ line ∷ []
lines_one [] some all = absurd (omega arith)
lines_one (c ∷ cs) some all =
    let nil = append-nil (c ∷ cs) in
    let first : front (is_not 10) (c ∷ cs) ≡ c ∷ cs = ap (front (is_not 10)) (sym nil) ∙ front_through (is_not 10) (c ∷ cs) [] all ∙ nil in
    let none : after_front (is_not 10) (c ∷ cs) ≡ [] = ap (after_front (is_not 10)) (sym nil) ∙ after_through (is_not 10) (c ∷ cs) [] all in
    lines_split c cs ∙ ap (λ x. x ∷ lines_of (drop 1 (after_front (is_not 10) (c ∷ cs)))) first ∙ ap (λ x. (c ∷ cs) ∷ lines_of (drop 1 x)) none

-- the line at the front of a text, where it ends
line_ends : (text line rest others : List ℕ) → text ≡ line ++ rest → 0 < length line → list_all (is_not 10) line ≡ true → EndsLine rest others → lines_of text ≡ line ∷ lines_of others
line_ends text line rest others whole some all (inl e) =
    ap lines_of (whole ∙ ap (λ x. line ++ x) e ∙ sym (append_assoc line (10 ∷ []) others)) ∙ first_line line others all
line_ends text line rest others whole some all (inr e) =
    ap lines_of (whole ∙ ap (λ x. line ++ x) e.0 ∙ append-nil line) ∙ lines_one line some all ∙ ap (λ x. line ∷ lines_of x) (sym e.1)

others_within : (rest others : List ℕ) → EndsLine rest others → length others ≤ length rest
others_within rest others (inl e) = rw e (omega arith)
others_within rest others (inr e) = rw (e.0, e.1) (omega arith)

-- a line says what stands before its end
cut_says : (said rest : List ℕ) (n : ℕ) → list_all (is_not 35) said ≡ true → length said ≤ n → front (is_not 35) (take n (said ++ 35 ∷ rest)) ≡ said
cut_says [] rest zero all h = refl
cut_says [] rest (suc n) all h = refl
cut_says (c ∷ cs) rest zero all h = absurd (omega (arith, h))
cut_says (c ∷ cs) rest (suc n) all h =
    let t = both_true (is_not 35 c) (list_all (is_not 35) cs) all in
    rw t.0 (ap (λ xs. c ∷ xs) (cut_says cs rest n t.1 (omega (arith, h))))

comment_says : (said comment : List ℕ) → list_all (is_not 35) said ≡ true → said_of (said ++ 35 ∷ comment) ≡ said
comment_says said comment all = by (eqb (get_or (said ++ 35 ∷ comment) (length (said ++ 35 ∷ comment) - 1) 0) 13)
  where
    count : length (said ++ 35 ∷ comment) ≡ length said + length (35 ∷ comment)
    count = length-append said (35 ∷ comment)

    by : (b : Bool) → front (is_not 35) (if b then take (length (said ++ 35 ∷ comment) - 1) (said ++ 35 ∷ comment) else said ++ 35 ∷ comment) ≡ said
    by true = cut_says said comment (length (said ++ 35 ∷ comment) - 1) all (omega (arith, count))
    by false = front_through (is_not 35) said (35 ∷ comment) all ∙ append-nil said

last_is : (xs : List ℕ) (y : ℕ) → get_or (xs ++ y ∷ []) (length xs) 0 ≡ y
last_is [] y = refl
last_is (x ∷ xs) y = last_is xs y

all_but_last : (xs : List ℕ) (y : ℕ) → take (length xs) (xs ++ y ∷ []) ≡ xs
all_but_last [] y = refl
all_but_last (x ∷ xs) y = ap (λ zs. x ∷ zs) (all_but_last xs y)

return_says : (said : List ℕ) → list_all (is_not 35) said ≡ true → said_of (said ++ 13 ∷ []) ≡ said
return_says said all =
    let count : length (said ++ 13 ∷ []) ≡ length said + 1 = length-append said (13 ∷ []) in
    let last : length (said ++ 13 ∷ []) - 1 ≡ length said = omega (arith, count) in
    let return : get_or (said ++ 13 ∷ []) (length (said ++ 13 ∷ []) - 1) 0 ≡ 13 = ap (λ n. get_or (said ++ 13 ∷ []) n 0) last ∙ last_is said 13 in
    let without : without_return (said ++ 13 ∷ []) ≡ said = rw return (ap (λ n. take n (said ++ 13 ∷ [])) last ∙ all_but_last said 13) in
    ap (front (is_not 35)) (without ∙ sym (append-nil said)) ∙ front_through (is_not 35) said [] all ∙ append-nil said

end_says : (said end : List ℕ) → list_all is_said_byte said ≡ true → IsUnsaid end → said_of (said ++ end) ≡ said
end_says said end all (inl e) =
    ap (λ x. said_of (said ++ x)) e ∙ ap said_of (append-nil said) ∙ says_itself said (all_pass is_said_byte is_plain said said_plain all)
end_says said end all (inr (inl e)) =
    ap (λ x. said_of (said ++ x)) e ∙ return_says said (all_pass is_said_byte (is_not 35) said said_no_comment all)
end_says said end all (inr (inr e)) =
    ap (λ x. said_of (said ++ x)) e.1 ∙ comment_says said e.0 (all_pass is_said_byte (is_not 35) said said_no_comment all)

-- after a carriage return, and after a comment
pub after_return : (text : List ℕ) → begins_with 13 text ≡ true → IsAfterEnd text (drop 1 text)
after_return [] h = absurd (cc)
after_return (c ∷ cs) h =
    let return : c ≡ 13 = grind (arith, nat_tests) in
    record { end = 13 ∷ []; cut = ap (λ x. x ∷ cs) return; unsaid = inr (inl refl); one_line = refl }

pub after_comment : (text rest : List ℕ) → begins_with 35 text ≡ true → rest ≡ after_front (is_not 10) text → IsAfterEnd text rest
after_comment [] rest h f = absurd (cc)
after_comment (c ∷ cs) rest h f =
    let comment : c ≡ 35 = grind (arith, nat_tests) in
    let whole : c ∷ cs ≡ front (is_not 10) (c ∷ cs) ++ rest = rw f (sym (split_back (is_not 10) (c ∷ cs))) in
    record {
      end = front (is_not 10) (c ∷ cs);
      cut = whole;
      unsaid = inr (inr (front (is_not 10) cs, ap (λ x. front (is_not 10) (x ∷ cs)) comment));
      one_line = front_passes (is_not 10) (c ∷ cs);
    }

pub after_nothing : (text : List ℕ) → IsAfterEnd text text
after_nothing text = record { end = []; cut = refl; unsaid = inl refl; one_line = refl }

-- what three words and a literal ask for
form_of : (ways : Ways) (a b literal : List ℕ) → is_name a ≡ true → is_name b ≡ true → short_line (word_of ways) a b literal ≡ arc_form ways a b literal
form_of One a b literal e f = rw (e, f) refl
form_of Both a b literal e f = rw (e, f) refl

-- what stands before the end of the line of an arc
pub record SaysArc (text : List ℕ) (ways : Ways) (a b label rest : List ℕ) : Type 0 where
  pub said : List ℕ
  pub cut : text ≡ said ++ rest
  pub some : 0 < length said
  pub plain : list_all is_said_byte said ≡ true
  pub asks : line_of said ≡ arc_form ways a b label

pub says_arc : (text : List ℕ) (ways : Ways) (a b literal label first second third rest : List ℕ) → BeginsNamed text (word_of ways) first → BeginsNamed first a second → BeginsNamed second b third
    → IsColonThen third literal → label ≡ front is_said_byte literal → rest ≡ after_front is_said_byte literal → SaysArc text ways a b label rest
says_arc text ways a b literal label first second third rest h k m l f g =
    let before = front (is_not 58) text in
    let said = before ++ 58 ∷ label in
    let words : words_of before ≡ word_of ways ∷ a ∷ b ∷ [] = h.words ∙ ap (λ w. word_of ways ∷ w) (k.words ∙ ap (λ w. a ∷ w) (m.words ∙ ap (λ w. b ∷ w) l.words)) in
    let colon : from_colon text ≡ 58 ∷ literal = h.colon ∙ k.colon ∙ m.colon ∙ l.colon in
    let parts : literal ≡ label ++ rest = rw (f, g) (sym (split_back is_said_byte literal)) in
    let after : list_all is_said_byte (58 ∷ label) ≡ true = ap (list_all is_said_byte) f ∙ front_passes is_said_byte literal in
    let count : length said ≡ length before + length (58 ∷ label) = length-append before (58 ∷ label) in
    record {
      said = said;
      cut = sym (split_back (is_not 58) text) ∙ ap (λ x. before ++ x) (colon ∙ ap (λ x. 58 ∷ x) parts) ∙ sym (append_assoc before (58 ∷ label) rest);
      some = omega (arith, count);
      plain = all_joined is_said_byte before (58 ∷ label) (h.said (k.said (m.said l.said))) after;
      asks = colon_form before label (front_passes (is_not 58) text) ∙ ap (λ w. colon_line w label) words ∙ form_of ways a b label k.is_named m.is_named;
    }

-- the line of an arc at the front of a text
pub arc_first : (text : List ℕ) (ways : Ways) (a b label rest tail others : List ℕ) → SaysArc text ways a b label rest → IsAfterEnd rest tail → EndsLine tail others
    → length text - length tail ≤ max_line_bytes → BeginsWithLine text others (arc_form ways a b label)
arc_first text ways a b label rest tail others says end ends fits =
    let line = says.said ++ end.end in
    let whole : text ≡ line ++ tail = says.cut ∙ ap (λ x. says.said ++ x) end.cut ∙ sym (append_assoc says.said end.end tail) in
    let count : length text ≡ length line + length tail = ap length whole ∙ length-append line tail in
    let parts : length line ≡ length says.said + length end.end = length-append says.said end.end in
    let most = says.some in
    let some : 0 < length line = omega (arith, parts, most) in
    let one_line : list_all (is_not 10) line ≡ true = all_joined (is_not 10) says.said end.end (all_pass is_said_byte (is_not 10) says.said said_no_feed says.plain) end.one_line in
    let within = others_within tail others ends in
    record {
      line = line;
      lines = line_ends text line tail others whole some one_line ends;
      short = omega (arith, count, fits);
      says = ap line_of (end_says says.said end.end says.plain end.unsaid) ∙ says.asks;
      shorter = omega (arith, count, some, within);
    }

-- the keys of fronts
byte_of_name : (c : ℕ) → is_name_byte c ≡ true → c < 256
byte_of_name c e = grind (arith, nat_tests)

all_bytes : (cs : List ℕ) → list_all is_name_byte cs ≡ true → AreBytes cs
all_bytes [] h = tt
all_bytes (c ∷ cs) h =
    let t = both_true (is_name_byte c) (list_all is_name_byte cs) h in
    (byte_of_name c t.0, all_bytes cs t.1)

pub name_keyed : (text name : List ℕ) (key : ℕ) → name ≡ front is_name_byte text → key_from 0 (front is_name_byte text) ≡ key → IsKeyed name key
name_keyed text name key e k =
    record { bytes = all_bytes name (ap (list_all is_name_byte) e ∙ front_passes is_name_byte text); is = ap (key_from 0) e ∙ k }

pub said_keyed : (text name : List ℕ) (key : ℕ) → name ≡ front is_said_byte text → key_from 0 (front is_said_byte text) ≡ key → AreBytes (front is_said_byte text) → IsKeyed name key
said_keyed text name key e k bytes = record { bytes = rw e bytes; is = ap (key_from 0) e ∙ k }
