-- The object that is written of a file that was read is well formed, and shallow.
use Rattle.std.proofs.Common.{◌≡◌, refl, sym, ◌∙◌, ap, ℕ, ℤ, pos, suc, ◌^◌, ◌<◌, ◌≤◌, List, [], ◌∷◌, map, Bool, true, false, ◌&&◌, nat_lt, Option, Some, None, option_map, IfSome, IsUtf8, IsAscii, if◌then◌else◌, Ordering, Less, Equal, Greater, nat_cmp, arith, subst}
use Rattle.std.specs.Cmp.Lexicographic.{slice_cmp, nat_list_cmp_total}
use Rattle.std.specs.List.{AllByRecursion}
use Rattle.std.specs.Ordering.{match_ordering, ordering_reverse}
use Rattle.std.specs.Prelude.{FitsSigned}
use Rattle.std.proofs.lemmas.Bool.Decides.{nat_tests}
use Rattle.std.proofs.lemmas.Map.Lookups.{exact_bytes}
use Rattle.std.proofs.lemmas.Str.{IsUtf8-from_ascii}
use Rattle.std.proofs.lemmas.Str.Ascii.{IsAscii-nil, IsAscii-cons}
use mir.Syntax.{w64}
use Rattle.vx_data.specs.Bodies.{elements, put, put_all, keys, IsInOrder, tree_depth, deepest_element, deepest_member}
use Rattle.vx_data.specs.Tree.{Tree, int, text, array, object, Members, no_members, member}
use Rattle.vx_data.specs.WellFormed.{IsWellFormed, AreWellFormed, HaveWellFormed}
use Rattle.vx_deployfile.specs.declared.file.DeployFile.{DeployFile}
use Rattle.vx_deployfile.specs.declared.file.Planned.{Planned}
use Rattle.vx_deployfile.specs.declared.file.PoolPlan.{PoolPlan}
use Rattle.vx_deployfile.specs.Limits.{IsPool, IsPlanned, IsWithinLimits}
use Rattle.vx_deployfile.specs.Texts.{Fields, those_there, made_of, number, unless_empty, if_true, pool_fields, pool_tree, planned_fields, planned_tree, file_fields, file_tree}
use Rattle.vx_deployfile.proofs.Sound.{AreSound, IsSoundPool, IsSoundPlan, IsSoundFile}

-- ---- members in order

all_chosen : (P : List ℕ → Type 0) (o : Ordering) (k l : List ℕ) (t u : Tree) (ms more : Members) → P k → P l → AllByRecursion P (keys ms) → AllByRecursion P (keys more)
    → AllByRecursion P (keys (match_ordering o (member k t (member l u ms)) (member k t ms) (member l u more)))
all_chosen P Less k l t u ms more hk hl hms hmore = (hk, (hl, hms))
all_chosen P Equal k l t u ms more hk hl hms hmore = (hk, hms)
all_chosen P Greater k l t u ms more hk hl hms hmore = (hl, hmore)

all_put : (P : List ℕ → Type 0) (k : List ℕ) (t : Tree) (ms : Members) → P k → AllByRecursion P (keys ms) → AllByRecursion P (keys (put k t ms))
all_put P k t no_members hk all = (hk, tt)
all_put P k t (member l u ms) hk all = all_chosen P (slice_cmp nat_cmp k l) k l t u ms (put k t ms) hk all.0 all.1 (all_put P k t ms hk all.1)

abbrev IsBefore : List ℕ → List ℕ → Type 0
IsBefore k l = slice_cmp nat_cmp k l ≡ Less

before_all : (k l : List ℕ) (ls : List (List ℕ)) → IsBefore k l → AllByRecursion (IsBefore l) ls → AllByRecursion (IsBefore k) ls
before_all k l [] h all = tt
before_all k l (m ∷ ms) h all = (nat_list_cmp_total.trans k l m h all.0, before_all k l ms h all.1)

order_chosen : (o : Ordering) (k l : List ℕ) (t u : Tree) (ms more : Members) → slice_cmp nat_cmp k l ≡ o → IsInOrder (member l u ms) → (IsBefore l k → AllByRecursion (IsBefore l) (keys more)) → IsInOrder more
    → IsInOrder (match_ordering o (member k t (member l u ms)) (member k t ms) (member l u more))
order_chosen Less k l t u ms more is order all later = ((is, before_all k l (keys ms) is order.0), order)
order_chosen Equal k l t u ms more is order all later = (subst (λ (key : List ℕ). AllByRecursion (IsBefore key) (keys ms)) (sym (exact_bytes k l is)) order.0, order.1)
order_chosen Greater k l t u ms more is order all later = (all (nat_list_cmp_total.antisymm l k ∙ ap ordering_reverse is), later)

order_put : (k : List ℕ) (t : Tree) (ms : Members) → IsInOrder ms → IsInOrder (put k t ms)
order_put k t no_members order = (tt, tt)
order_put k t (member l u ms) order = order_chosen (slice_cmp nat_cmp k l) k l t u ms (put k t ms) refl order (λ before. all_put (IsBefore l) k t ms before order.0) (order_put k t ms order.1)

well_chosen : (o : Ordering) (k l : List ℕ) (t u : Tree) (ms more : Members) → IsUtf8 k → IsWellFormed t → IsUtf8 l → IsWellFormed u → HaveWellFormed ms → HaveWellFormed more
    → HaveWellFormed (match_ordering o (member k t (member l u ms)) (member k t ms) (member l u more))
well_chosen Less k l t u ms more hk ht hl hu hms hmore = (hk, ht, (hl, hu, hms))
well_chosen Equal k l t u ms more hk ht hl hu hms hmore = (hk, ht, hms)
well_chosen Greater k l t u ms more hk ht hl hu hms hmore = (hl, hu, hmore)

well_put : (k : List ℕ) (t : Tree) (ms : Members) → IsUtf8 k → IsWellFormed t → HaveWellFormed ms → HaveWellFormed (put k t ms)
well_put k t no_members hk ht hms = (hk, ht, tt)
well_put k t (member l u ms) hk ht hms = well_chosen (slice_cmp nat_cmp k l) k l t u ms (put k t ms) hk ht hms.0 hms.1 hms.2 (well_put k t ms hk ht hms.2)

-- ---- objects that are made of fields

-- bytes of ASCII, as each name of a field has them
abbrev is_plain : List ℕ → Bool
is_plain [] = true
is_plain (b ∷ bs) = nat_lt b 128 && is_plain bs

plain_first : (b : ℕ) (more : Bool) → (nat_lt b 128 && more) ≡ true → b < 128
plain_first b more h = grind (arith, nat_tests)

plain_more : (test more : Bool) → (test && more) ≡ true → more ≡ true
plain_more true more h = h
plain_more false more h = absurd (cc)

plain_ascii : (bs : List ℕ) → is_plain bs ≡ true → IsAscii bs
plain_ascii [] h = IsAscii-nil
plain_ascii (b ∷ bs) h = IsAscii-cons b bs (plain_first b (is_plain bs) h) (plain_ascii bs (plain_more (nat_lt b 128) (is_plain bs) h))

abbrev IsWellField : Option Tree → Type 0
IsWellField None = Unit {0}
IsWellField (Some t) = IsWellFormed t

abbrev AreWell : Fields → Type 0
AreWell [] = Unit {0}
AreWell (f ∷ fs) = (is_plain f.0 ≡ true) × IsWellField f.1 × AreWell fs

well_behind : (key : List ℕ) (o : Option Tree) (fs : Fields) (found : Members) → is_plain key ≡ true → IsWellField o
    → ((found : Members) → IsWellFormed (object found) → IsWellFormed (object (put_all (those_there fs) found))) → IsWellFormed (object found) → IsWellFormed (object (put_all (those_there ((key, o) ∷ fs)) found))
well_behind key None fs found plain well more h = more found h
well_behind key (Some t) fs found plain well more h = more (put key t found) (order_put key t found h.0, well_put key t found (IsUtf8-from_ascii key (plain_ascii key plain)) well h.1)

all_well : (fs : Fields) → AreWell fs → (found : Members) → IsWellFormed (object found) → IsWellFormed (object (put_all (those_there fs) found))
all_well [] well found h = h
all_well (f ∷ fs) well found h = well_behind f.0 f.1 fs found well.0 well.1 (all_well fs well.2) h

made_well : (fs : Fields) → AreWell fs → IsWellFormed (object (made_of fs))
made_well fs well = all_well fs well no_members (tt, tt)

items_well : {A : Type 0} (tree : A → Tree) (P Q : A → Type 0) → ((x : A) → P x → Q x → IsWellFormed (tree x)) → (xs : List A) → AllByRecursion P xs → AllByRecursion Q xs → AreWellFormed (elements (map tree xs))
items_well tree P Q well [] hp hq = tt
items_well tree P Q well (x ∷ xs) hp hq = (well x hp.0 hq.0, items_well tree P Q well xs hp.1 hq.1)

number_well : (n : ℕ) → n < 2 ^ 63 → FitsSigned w64 (pos n)
number_well n small = record { sfits = small }

if_well : (test : Bool) (t : Tree) → IsWellFormed t → IsWellField (if test then None else Some t)
if_well true t h = tt
if_well false t h = h

empty_well : (ts : List Tree) → AreWellFormed (elements ts) → IsWellField (unless_empty ts)
empty_well [] h = tt
empty_well (t ∷ ts) h = h

named_well : (o : Option (List ℕ)) → IfSome o IsUtf8 → IsWellField (option_map text o)
named_well None h = tt
named_well (Some s) h = h

flag_well : (flag : Bool) → IsWellField (if_true flag)
flag_well true = tt
flag_well false = tt

numbers_well : (ns : List ℤ) → AreSound (elements (map int ns)) → AreWellFormed (elements (map int ns))
numbers_well [] h = tt
numbers_well (n ∷ ns) h = (h.0, numbers_well ns h.1)

pool_well : (pool : PoolPlan) → IsPool pool → IsSoundPool pool → IsWellFormed (pool_tree pool)
pool_well pool is sound = made_well (pool_fields pool) (refl, sound, (refl, number_well pool.size (omega (arith, is.size.1)), tt))

plan_well : (pools : List PoolPlan) (plan : Planned) → IsPlanned pools plan → IsSoundPlan plan → IsWellFormed (planned_tree plan)
plan_well pools plan is sound = made_well (planned_fields plan) (
  refl,
  sound.address,
  (
    refl,
    empty_well (map int plan.spec.config) (numbers_well plan.spec.config sound.config),
    (
      refl,
      if_well _ (number plan.instances) (number_well plan.instances (omega (arith, is.instances.1))),
      (refl, sound.kind, (refl, named_well plan.pool sound.pool, (refl, if_well _ (text plan.spec.to) sound.to, (refl, flag_well plan.worker, tt)))),
    ),
  ),
)

pub file_well : (file : DeployFile) → IsWithinLimits file → IsSoundFile file → IsWellFormed (file_tree file)
file_well file is sound = made_well (file_fields file) (
  refl,
  items_well planned_tree (IsPlanned file.pools) IsSoundPlan (plan_well file.pools) file.deployments is.deployments sound.deployments,
  (
    refl,
    if_well _ (number file.loops) (number_well file.loops (omega (arith, is.loops.1))),
    (
      refl,
      empty_well (map pool_tree file.pools) (items_well pool_tree IsPool IsSoundPool pool_well file.pools is.pools sound.pools),
      (
        refl,
        if_well _ (number file.until) (number_well file.until (omega (arith, is.until))),
        (
          refl,
          number_well 2 (omega arith),
          (refl, if_well _ (number file.workers) (number_well file.workers (omega (arith, is.workers.1))), tt),
        ),
      ),
    ),
  ),
)

-- ---- depth

abbrev IsShallow : ℕ → Option Tree → Type 0
IsShallow n None = Unit {0}
IsShallow n (Some t) = tree_depth t ≤ n

abbrev AreShallow : ℕ → Fields → Type 0
AreShallow n [] = Unit {0}
AreShallow n (f ∷ fs) = IsShallow n f.1 × AreShallow n fs

depth_chosen : (n : ℕ) (o : Ordering) (k l : List ℕ) (t u : Tree) (ms more : Members) → tree_depth t ≤ n → deepest_member (member l u ms) ≤ n → deepest_member more ≤ n
    → deepest_member (match_ordering o (member k t (member l u ms)) (member k t ms) (member l u more)) ≤ n
depth_chosen n Less k l t u ms more ht hms hmore = omega arith
depth_chosen n Equal k l t u ms more ht hms hmore = omega arith
depth_chosen n Greater k l t u ms more ht hms hmore = omega arith

depth_put : (n : ℕ) (k : List ℕ) (t : Tree) (ms : Members) → tree_depth t ≤ n → deepest_member ms ≤ n → deepest_member (put k t ms) ≤ n
depth_put n k t no_members ht hms = omega arith
depth_put n k t (member l u ms) ht hms = depth_chosen n (slice_cmp nat_cmp k l) k l t u ms (put k t ms) ht hms (depth_put n k t ms ht (omega arith))

depth_behind : (n : ℕ) (key : List ℕ) (o : Option Tree) (fs : Fields) (found : Members) → IsShallow n o
    → ((found : Members) → deepest_member found ≤ n → deepest_member (put_all (those_there fs) found) ≤ n) → deepest_member found ≤ n → deepest_member (put_all (those_there ((key, o) ∷ fs)) found) ≤ n
depth_behind n key None fs found is more h = more found h
depth_behind n key (Some t) fs found is more h = more (put key t found) (depth_put n key t found is h)

all_shallow : (n : ℕ) (fs : Fields) → AreShallow n fs → (found : Members) → deepest_member found ≤ n → deepest_member (put_all (those_there fs) found) ≤ n
all_shallow n [] are found h = h
all_shallow n (f ∷ fs) are found h = depth_behind n f.0 f.1 fs found are.0 (all_shallow n fs are.1) h

made_shallow : (n : ℕ) (fs : Fields) → AreShallow n fs → tree_depth (object (made_of fs)) ≤ suc n
made_shallow n fs are = omega (arith, all_shallow n fs are no_members (omega arith))

items_shallow : {A : Type 0} (n : ℕ) (tree : A → Tree) → ((x : A) → tree_depth (tree x) ≤ n) → (xs : List A) → deepest_element (elements (map tree xs)) ≤ n
items_shallow n tree shallow [] = omega arith
items_shallow n tree shallow (x ∷ xs) = omega (arith, shallow x, items_shallow n tree shallow xs)

if_shallow : (n : ℕ) (test : Bool) (t : Tree) → tree_depth t ≤ n → IsShallow n (if test then None else Some t)
if_shallow n true t h = tt
if_shallow n false t h = h

empty_shallow : (n : ℕ) (ts : List Tree) → deepest_element (elements ts) ≤ n → IsShallow (suc n) (unless_empty ts)
empty_shallow n [] h = tt
empty_shallow n (t ∷ ts) h = omega arith

named_shallow : (n : ℕ) (o : Option (List ℕ)) → IsShallow n (option_map text o)
named_shallow n None = tt
named_shallow n (Some s) = omega arith

flag_shallow : (n : ℕ) (flag : Bool) → IsShallow n (if_true flag)
flag_shallow n true = omega arith
flag_shallow n false = tt

pool_shallow : (pool : PoolPlan) → tree_depth (pool_tree pool) ≤ 2
pool_shallow pool = made_shallow 1 (pool_fields pool) ((omega arith), ((omega arith), tt))

number_shallow : (n : ℤ) → tree_depth (int n) ≤ 0
number_shallow n = omega arith

plan_shallow : (plan : Planned) → tree_depth (planned_tree plan) ≤ 2
plan_shallow plan = made_shallow 1 (planned_fields plan) (
  (omega arith),
  (
    empty_shallow 0 (map int plan.spec.config) (items_shallow 0 int number_shallow plan.spec.config),
    (
      if_shallow 1 _ (number plan.instances) (omega arith),
      (
        (omega arith),
        (
          named_shallow 1 plan.pool,
          (if_shallow 1 _ (text plan.spec.to) (omega arith), (flag_shallow 1 plan.worker, tt)),
        ),
      ),
    ),
  ),
)

plans_shallow : (plans : List Planned) → tree_depth (array (elements (map planned_tree plans))) ≤ 3
plans_shallow plans = omega (arith, items_shallow 2 planned_tree plan_shallow plans)

pub file_shallow : (file : DeployFile) → tree_depth (file_tree file) ≤ 4
file_shallow file = made_shallow 3 (file_fields file) (
  plans_shallow file.deployments,
  (
    if_shallow 3 _ (number file.loops) (omega arith),
    (
      empty_shallow 2 (map pool_tree file.pools) (items_shallow 2 pool_tree pool_shallow file.pools),
      (if_shallow 3 _ (number file.until) (omega arith), ((omega arith), (if_shallow 3 _ (number file.workers) (omega arith), tt))),
    ),
  ),
)
