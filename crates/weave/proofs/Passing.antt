-- What passes on an arc, one stretch after another.
use Rattle.std.proofs.Common.{◌≡◌, List, [], ◌∷◌, ◌++◌, refl, sym, ap, subst, ◌∙◌, map, append_assoc, append-nil}
use Rattle.weave.specs.Lanes.{PureLane, elsewhere, inside, coming, going, HasPassed, noted_lane}

module _ {M : Type 0} where
  pub passed_same : (l : PureLane M) → HasPassed l [] [] l
  passed_same elsewhere = tt
  passed_same (inside waits) = append-nil waits
  passed_same (coming link received) = (refl, sym (append-nil received))
  passed_same (going link sent) = (refl, sym (append-nil sent))

  -- the same lane, where nothing passed
  pub passed_by : (l n : PureLane M) → n ≡ l → HasPassed l [] [] n
  passed_by l n e = subst (λ x. HasPassed l [] [] x) (sym e) (passed_same l)

  inside_then : (l m n put taken put' taken' : List M) → l ++ put ≡ taken ++ m → m ++ put' ≡ taken' ++ n → l ++ (put ++ put') ≡ (taken ++ taken') ++ n
  inside_then l m n put taken put' taken' e f =
      sym (append_assoc l put put') ∙ (ap (λ x. x ++ put') e ∙ (append_assoc taken m put' ∙ (ap (λ x. taken ++ x) f ∙ sym (append_assoc taken taken' n))))

  more : (old mid new x y : List M) → mid ≡ old ++ x → new ≡ mid ++ y → new ≡ old ++ (x ++ y)
  more old mid new x y e f = f ∙ (ap (λ l. l ++ y) e ∙ append_assoc old x y)

  pub passed_then : (l m n : PureLane M) (put taken put' taken' : List M) → HasPassed l put taken m → HasPassed m put' taken' n → HasPassed l (put ++ put') (taken ++ taken') n
  passed_then elsewhere elsewhere elsewhere put taken put' taken' p q = tt
  passed_then (inside l) (inside m) (inside n) put taken put' taken' p q = inside_then l m n put taken put' taken' p q
  passed_then (coming a l) (coming b m) (coming c n) put taken put' taken' p q = (q.0 ∙ p.0, more l m n taken taken' p.1 q.1)
  passed_then (going a l) (going b m) (going c n) put taken put' taken' p q = (q.0 ∙ p.0, more l m n put put' p.1 q.1)
  passed_then elsewhere (inside m) n put taken put' taken' p q = absurd p
  passed_then elsewhere (coming b m) n put taken put' taken' p q = absurd p
  passed_then elsewhere (going b m) n put taken put' taken' p q = absurd p
  passed_then (inside l) elsewhere n put taken put' taken' p q = absurd p
  passed_then (inside l) (coming b m) n put taken put' taken' p q = absurd p
  passed_then (inside l) (going b m) n put taken put' taken' p q = absurd p
  passed_then (coming a l) elsewhere n put taken put' taken' p q = absurd p
  passed_then (coming a l) (inside m) n put taken put' taken' p q = absurd p
  passed_then (coming a l) (going b m) n put taken put' taken' p q = absurd p
  passed_then (going a l) elsewhere n put taken put' taken' p q = absurd p
  passed_then (going a l) (inside m) n put taken put' taken' p q = absurd p
  passed_then (going a l) (coming b m) n put taken put' taken' p q = absurd p
  passed_then elsewhere elsewhere (inside n) put taken put' taken' p q = absurd q
  passed_then elsewhere elsewhere (coming c n) put taken put' taken' p q = absurd q
  passed_then elsewhere elsewhere (going c n) put taken put' taken' p q = absurd q
  passed_then (inside l) (inside m) elsewhere put taken put' taken' p q = absurd q
  passed_then (inside l) (inside m) (coming c n) put taken put' taken' p q = absurd q
  passed_then (inside l) (inside m) (going c n) put taken put' taken' p q = absurd q
  passed_then (coming a l) (coming b m) elsewhere put taken put' taken' p q = absurd q
  passed_then (coming a l) (coming b m) (inside n) put taken put' taken' p q = absurd q
  passed_then (coming a l) (coming b m) (going c n) put taken put' taken' p q = absurd q
  passed_then (going a l) (going b m) elsewhere put taken put' taken' p q = absurd q
  passed_then (going a l) (going b m) (inside n) put taken put' taken' p q = absurd q
  passed_then (going a l) (going b m) (coming c n) put taken put' taken' p q = absurd q

map_join : {M W : Type 0} (note : M → W) (xs ys : List M) → map note (xs ++ ys) ≡ map note xs ++ map note ys
map_join note [] ys = refl
map_join note (x ∷ xs) ys = ap (λ l. note x ∷ l) (map_join note xs ys)

module _ {M W : Type 0} (note : M → W) where
  both : (a b c d : List M) → a ++ b ≡ c ++ d → map note a ++ map note b ≡ map note c ++ map note d
  both a b c d e = sym (map_join note a b) ∙ (ap (map note) e ∙ map_join note c d)

  -- what passed, by what it says
  pub passed_noted : (l n : PureLane M) (put taken : List M) → HasPassed l put taken n → HasPassed (noted_lane note l) (map note put) (map note taken) (noted_lane note n)
  passed_noted elsewhere elsewhere put taken p = tt
  passed_noted (inside l) (inside n) put taken p = both l put taken n p
  passed_noted (coming a l) (coming c n) put taken p = (p.0, ap (map note) p.1 ∙ map_join note l taken)
  passed_noted (going a l) (going c n) put taken p = (p.0, ap (map note) p.1 ∙ map_join note l put)
  passed_noted elsewhere (inside n) put taken p = absurd p
  passed_noted elsewhere (coming c n) put taken p = absurd p
  passed_noted elsewhere (going c n) put taken p = absurd p
  passed_noted (inside l) elsewhere put taken p = absurd p
  passed_noted (inside l) (coming c n) put taken p = absurd p
  passed_noted (inside l) (going c n) put taken p = absurd p
  passed_noted (coming a l) elsewhere put taken p = absurd p
  passed_noted (coming a l) (inside n) put taken p = absurd p
  passed_noted (coming a l) (going c n) put taken p = absurd p
  passed_noted (going a l) elsewhere put taken p = absurd p
  passed_noted (going a l) (inside n) put taken p = absurd p
  passed_noted (going a l) (coming c n) put taken p = absurd p
