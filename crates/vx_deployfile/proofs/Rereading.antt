-- The text of a file that was read is read as that file again.
use Rattle.std.proofs.Common.{◌≡◌, sym, ◌∙◌, ap, ℕ, ℤ, ◌≤◌, List, [], ◌∷◌, length, map, Bool, true, false, Option, Some, None, option_map, Ok, Err, if◌then◌else◌, Ordering, Less, Equal, Greater, nat_cmp, arith}
use Rattle.std.specs.Cmp.Lexicographic.{slice_cmp}
use Rattle.std.specs.Ordering.{match_ordering}
use Rattle.vx_data.specs.Bodies.{elements, put, put_all}
use Rattle.vx_data.specs.Tree.{Tree, int, text, object, Members, no_members, member}
use Rattle.vx_data.specs.WellFormed.{HasNoBytes, ElementsHaveNoBytes, MembersHaveNoBytes}
use Rattle.vx_deployfile.specs.declared.fault.FileRefused.{FileRefused}
use Rattle.vx_deployfile.specs.declared.file.DeployFile.{DeployFile}
use Rattle.vx_deployfile.specs.declared.file.Planned.{Planned}
use Rattle.vx_deployfile.specs.declared.file.PoolPlan.{PoolPlan}
use Rattle.vx_deployfile.specs.Files.{file_of, max_file_bytes, ReadsAs, too_long, no_object, an_object}
use Rattle.vx_deployfile.specs.Texts.{Fields, those_there, made_of, number, unless_empty, if_true, pool_fields, pool_tree, planned_fields, planned_tree, file_fields, file_tree, file_text}
use Rattle.vx_deployfile.proofs.Again.{read_again, no_longer}
use Rattle.vx_deployfile.proofs.Limits.{file_within}
use Rattle.vx_deployfile.proofs.Sizes.{text_small, settled_small, padded_longer}
use Rattle.vx_deployfile.proofs.Sound.{HaveSound, value_sound, settled_members_sound, file_sound}
use Rattle.vx_deployfile.proofs.Well.{file_well, file_shallow}
use Rattle.vx_json.proofs.RoundTrip.{text_is_json}
use Rattle.vx_json.specs.Grammar.{IsJson, IsValue, settled, settled_members}

-- ---- no part of a file's text is bytes

put_plain : (o : Ordering) (k l : List ℕ) (t u : Tree) (ms more : Members) → HasNoBytes t → HasNoBytes u → MembersHaveNoBytes ms → MembersHaveNoBytes more
    → MembersHaveNoBytes (match_ordering o (member k t (member l u ms)) (member k t ms) (member l u more))
put_plain Less k l t u ms more ht hu hms hmore = (ht, (hu, hms))
put_plain Equal k l t u ms more ht hu hms hmore = (ht, hms)
put_plain Greater k l t u ms more ht hu hms hmore = (hu, hmore)

member_put : (k : List ℕ) (t : Tree) (ms : Members) → HasNoBytes t → MembersHaveNoBytes ms → MembersHaveNoBytes (put k t ms)
member_put k t no_members h hms = (h, tt)
member_put k t (member l u ms) h hms = put_plain (slice_cmp nat_cmp k l) k l t u ms (put k t ms) h hms.0 hms.1 (member_put k t ms h hms.1)

-- a value that is there is no bytes
abbrev IsPlain : Option Tree → Type 0
IsPlain None = Unit {0}
IsPlain (Some t) = HasNoBytes t

abbrev ArePlain : Fields → Type 0
ArePlain [] = Unit {0}
ArePlain (f ∷ fs) = IsPlain f.1 × ArePlain fs

plain_behind : (key : List ℕ) (o : Option Tree) (fs : Fields) (found : Members) → ((found : Members) → MembersHaveNoBytes found → MembersHaveNoBytes (put_all (those_there fs) found)) → IsPlain o → MembersHaveNoBytes found
    → MembersHaveNoBytes (put_all (those_there ((key, o) ∷ fs)) found)
plain_behind key None fs found more is h = more found h
plain_behind key (Some t) fs found more is h = more (put key t found) (member_put key t found is h)

all_plain : (fs : Fields) → ArePlain fs → (found : Members) → MembersHaveNoBytes found → MembersHaveNoBytes (put_all (those_there fs) found)
all_plain [] plain found h = h
all_plain (f ∷ fs) plain found h = plain_behind f.0 f.1 fs found (all_plain fs plain.1) plain.0 h

made_plain : (fs : Fields) → ArePlain fs → MembersHaveNoBytes (made_of fs)
made_plain fs plain = all_plain fs plain no_members tt

items_plain : {A : Type 0} (tree : A → Tree) → ((x : A) → HasNoBytes (tree x)) → (xs : List A) → ElementsHaveNoBytes (elements (map tree xs))
items_plain tree plain [] = tt
items_plain tree plain (x ∷ xs) = (plain x, items_plain tree plain xs)

if_plain : (test : Bool) (t : Tree) → HasNoBytes t → IsPlain (if test then None else Some t)
if_plain true t h = tt
if_plain false t h = h

empty_plain : (ts : List Tree) → ElementsHaveNoBytes (elements ts) → IsPlain (unless_empty ts)
empty_plain [] h = tt
empty_plain (t ∷ ts) h = h

named_plain : (o : Option (List ℕ)) → IsPlain (option_map text o)
named_plain None = tt
named_plain (Some s) = tt

flag_plain : (flag : Bool) → IsPlain (if_true flag)
flag_plain true = tt
flag_plain false = tt

pool_plain : (pool : PoolPlan) → HasNoBytes (pool_tree pool)
pool_plain pool = made_plain (pool_fields pool) (tt, (tt, tt))

number_plain : (n : ℤ) → HasNoBytes (int n)
number_plain n = tt

planned_plain : (plan : Planned) → HasNoBytes (planned_tree plan)
planned_plain plan = made_plain (planned_fields plan) (
  tt,
  (
    empty_plain (map int plan.spec.config) (items_plain int number_plain plan.spec.config),
    (
      if_plain _ (number plan.instances) tt,
      (
        tt,
        (
          named_plain plan.pool,
          (if_plain _ (text plan.spec.to) tt, (flag_plain plan.worker, tt)),
        ),
      ),
    ),
  ),
)

pub file_plain : (file : DeployFile) → HasNoBytes (file_tree file)
file_plain file = made_plain (file_fields file) (
  items_plain planned_tree planned_plain file.deployments,
  (
    if_plain _ (number file.loops) tt,
    (
      empty_plain (map pool_tree file.pools) (items_plain pool_tree pool_plain file.pools),
      (if_plain _ (number file.until) tt, (tt, (if_plain _ (number file.workers) tt, tt))),
    ),
  ),
)

-- ---- the text again

abbrev members_of : Tree → Members
members_of (object ms) = ms
members_of _ = no_members

-- what is written is JSON of that very object
written_json : (fields : Members) (file : DeployFile) → HaveSound fields → file_of fields ≡ Ok file → IsJson (file_tree file) (file_text file) × (settled (file_tree file) ≡ file_tree file)
written_json fields file sound read =
    text_is_json (file_tree file) (omega (arith, file_shallow file)) (file_well file (file_within fields file read) (file_sound fields file read sound)) (file_plain file)

text_again : (all : List ℕ) (fields : Members) (file : DeployFile) → length all ≤ max_file_bytes → IsJson (object fields) all → file_of (settled_members fields no_members) ≡ Ok file → ReadsAs (file_text file) (Ok file)
text_again all fields file small json read =
    let inner = json.0 in
    let is = written_json (settled_members fields no_members) file (settled_members_sound fields no_members (value_sound (object fields) inner.inner inner.is_inner) tt) read in
    an_object
    (omega (arith, no_longer (settled_members fields no_members) file read, settled_small (object fields), text_small (object fields) inner.inner inner.is_inner, padded_longer (IsValue (object fields)) all inner))
    (made_of (file_fields file)) is.0 (sym (ap file_of (ap members_of is.1) ∙ read_again (settled_members fields no_members) file read))

not_a_file : {R : Type 0} (file : DeployFile) (fault : FileRefused) → Ok file ≡ Err fault → R
not_a_file file fault h = absurd (cc)

pub reads_again : (file : DeployFile) (all : List ℕ) → ReadsAs all (Ok file) → ReadsAs (file_text file) (Ok file)
reads_again file all (too_long long told) = not_a_file file _ told
reads_again file all (no_object small none told) = not_a_file file _ told
reads_again file all (an_object small fields json told) = text_again all fields file small json (sym told)
