-- The exact facts of the labels of base algebras, by comparisons of the label's number with 0 and the top.
use Rattle.std.specs.Prelude.{ℕ, ◌==◌, Bool, true, false, not, nat_lt, nat_le, if◌then◌else◌}
use Rattle.alg_model.specs.Expressions.{Expression, add, cap, worst, width, pref, orig, seq, simseq, tags, guard, gate, table, lex, scoped, union, sum, plus, left, right}
use Rattle.alg_model.specs.Expressions.{PureLabel}
use Rattle.alg_classes.specs.declared.profile.Profile.{Profile}
use Rattle.alg_classes.specs.Constants.{denied_profile}
use Rattle.base_classes.specs.Kinds.{number_in, is_allow}

abbrev pub add_profile : ℕ → Profile
add_profile n = record {
  total = true;
  dead = false;
  mono = true;
  strict = not (n == 0);
  iso = true;
  canc = true;
  cond = false;
  narrow = false;
}

-- top, number
abbrev pub cap_profile : ℕ → ℕ → Profile
cap_profile top n = record {
  total = n == 0;
  dead = nat_lt top n;
  mono = true;
  strict = not (n == 0);
  iso = true;
  canc = true;
  cond = nat_le top n;
  narrow = nat_le top n;
}

abbrev pub worst_profile : ℕ → ℕ → Profile
worst_profile top n = record {
  total = true;
  dead = false;
  mono = true;
  strict = false;
  iso = true;
  canc = n == 0;
  cond = n == top;
  narrow = top == 0;
}

abbrev pub width_profile : ℕ → ℕ → Profile
width_profile top n = record {
  total = true;
  dead = false;
  mono = true;
  strict = false;
  iso = true;
  canc = n == top;
  cond = n == 0;
  narrow = top == 0;
}

abbrev pub pref_profile : ℕ → ℕ → Profile
pref_profile top n = record {
  total = true;
  dead = false;
  mono = n == 0;
  strict = false;
  iso = true;
  canc = top == 0;
  cond = true;
  narrow = top == 0;
}

-- of a label that keeps each value, or sends each to one; all values of the carrier are equivalent, or not
abbrev pub keep_profile : Bool → Profile
keep_profile flat = record {
  total = true;
  dead = false;
  mono = true;
  strict = false;
  iso = true;
  canc = true;
  cond = flat;
  narrow = flat;
}

abbrev pub seq_profile : Profile
seq_profile = record {
  total = true;
  dead = false;
  mono = true;
  strict = true;
  iso = true;
  canc = true;
  cond = false;
  narrow = false;
}

-- how many symbols
abbrev pub simseq_profile : ℕ → Profile
simseq_profile k = record {
  total = false;
  dead = false;
  mono = true;
  strict = true;
  iso = k == 1;
  canc = true;
  cond = k == 1;
  narrow = k == 1;
}

abbrev pub guard_profile : Profile
guard_profile = record {
  total = false;
  dead = false;
  mono = true;
  strict = false;
  iso = false;
  canc = true;
  cond = true;
  narrow = true;
}

-- of a label of a base algebra
abbrev pub base_profile_of : Expression → PureLabel → Profile
base_profile_of (add low high) l = add_profile (number_in l)
base_profile_of (cap top low high) l = cap_profile top (number_in l)
base_profile_of (worst top low high) l = worst_profile top (number_in l)
base_profile_of (width top low high) l = width_profile top (number_in l)
base_profile_of (pref top) l = pref_profile top (number_in l)
base_profile_of (orig top) l = keep_profile (top == 0)
base_profile_of (seq k) l = seq_profile
base_profile_of (simseq k) l = simseq_profile k
base_profile_of (tags k) l = keep_profile true
base_profile_of (guard k) l = guard_profile
base_profile_of gate l = if is_allow l then keep_profile true else denied_profile
base_profile_of (table t) l = denied_profile
base_profile_of (lex a b) l = denied_profile
base_profile_of (scoped a b) l = denied_profile
base_profile_of (union a b) l = denied_profile
base_profile_of (sum a b) l = denied_profile
base_profile_of (plus a b) l = denied_profile
base_profile_of (left a) l = denied_profile
base_profile_of (right a) l = denied_profile
