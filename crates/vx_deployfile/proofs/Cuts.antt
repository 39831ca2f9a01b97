-- A file is read from the uppermost levels of its text alone.
use Rattle.std.proofs.Common.{◌≡◌, refl, ◌∙◌, ap, ℕ, zero, suc, List, [], ◌∷◌, ◌++◌, length, Bool, true, false, Option, Some, None, option_map, Ok, Err}
use Rattle.std.specs.Prelude.{if◌then◌else◌, nat_le, codes, ◌==◌}
use Rattle.std.specs.Str.{bytes_eq}
use Rattle.vx_data.specs.Tree.{Tree, null, boolean, int, text, bytes, array, object, Elements, no_elements, element, Members, no_members, member}
use Rattle.vx_deployfile.specs.declared.fault.FileWhy.TheVariants.{Range, Missing}
use Rattle.vx_deployfile.specs.declared.fault.Place.{Place}
use Rattle.vx_deployfile.specs.declared.fault.Place.TheVariants.{File, Loops, Workers, Pool, Until, Deployment}
use Rattle.vx_deployfile.specs.declared.file.PoolPlan.{PoolPlan}
use Rattle.vx_deployfile.specs.Fields.{misfit, field, required, object_in, array_in, number_in, number_or, text_in, if_name, name_in, name_or, flag_in, int_in, numbers_in}
use Rattle.vx_deployfile.specs.Files.{each, if_new, pool_in, each_pool, all_pools, pools_in, if_kind, kind_in, address_in, if_pool, named_pool, pool_of, numbers_or_none, if_suits, config_in, planned_in, each_planned, deployments_in, as_version, version_in, no_bridge, file_of}
use Rattle.vx_deployfile.specs.Outlines.{cut, cut_elements, cut_members}
use Rattle.vx_deployfile.specs.Verdicts.{Verdict, ◌>>=◌}

-- ---- values

number_cut : (n : ℕ) (place : Place) (least most : ℕ) (t : Tree) → number_in place least most (cut n t) ≡ number_in place least most t
number_cut n place least most null = refl
number_cut n place least most (boolean b) = refl
number_cut n place least most (int i) = refl
number_cut n place least most (text s) = refl
number_cut n place least most (bytes s) = refl
number_cut zero place least most (array es) = refl
number_cut (suc n) place least most (array es) = refl
number_cut zero place least most (object ms) = refl
number_cut (suc n) place least most (object ms) = refl

text_cut : (n : ℕ) (place : Place) (t : Tree) → text_in place (cut n t) ≡ text_in place t
text_cut n place null = refl
text_cut n place (boolean b) = refl
text_cut n place (int i) = refl
text_cut n place (text s) = refl
text_cut n place (bytes s) = refl
text_cut zero place (array es) = refl
text_cut (suc n) place (array es) = refl
text_cut zero place (object ms) = refl
text_cut (suc n) place (object ms) = refl

int_cut : (n : ℕ) (place : Place) (t : Tree) → int_in place (cut n t) ≡ int_in place t
int_cut n place null = refl
int_cut n place (boolean b) = refl
int_cut n place (int i) = refl
int_cut n place (text s) = refl
int_cut n place (bytes s) = refl
int_cut zero place (array es) = refl
int_cut (suc n) place (array es) = refl
int_cut zero place (object ms) = refl
int_cut (suc n) place (object ms) = refl

flag_cut : (n : ℕ) (place : Place) (o : Option Tree) → flag_in place (option_map (cut n) o) ≡ flag_in place o
flag_cut n place None = refl
flag_cut n place (Some null) = refl
flag_cut n place (Some (boolean b)) = refl
flag_cut n place (Some (int i)) = refl
flag_cut n place (Some (text s)) = refl
flag_cut n place (Some (bytes s)) = refl
flag_cut zero place (Some (array es)) = refl
flag_cut (suc n) place (Some (array es)) = refl
flag_cut zero place (Some (object ms)) = refl
flag_cut (suc n) place (Some (object ms)) = refl

name_cut : (n : ℕ) (place : Place) (t : Tree) → name_in place (cut n t) ≡ name_in place t
name_cut n place t = ap (λ read. read >>= if_name place) (text_cut n place t)

number_or_cut : (n otherwise : ℕ) (place : Place) (least most : ℕ) (o : Option Tree) → number_or otherwise place least most (option_map (cut n) o) ≡ number_or otherwise place least most o
number_or_cut n otherwise place least most None = refl
number_or_cut n otherwise place least most (Some t) = number_cut n place least most t

name_or_cut : (n : ℕ) (otherwise : List ℕ) (place : Place) (o : Option Tree) → name_or otherwise place (option_map (cut n) o) ≡ name_or otherwise place o
name_or_cut n otherwise place None = refl
name_or_cut n otherwise place (Some t) = name_cut n place t

numbers_cut : (n : ℕ) (place : Place) (es : Elements) → numbers_in place (cut_elements n es) ≡ numbers_in place es
numbers_cut n place no_elements = refl
numbers_cut n place (element t es) = λ i. (int_cut n place t i >>= λ x. (numbers_cut n place es i >>= λ xs. Ok (x ∷ xs)))

-- ---- fields

chosen : (n : ℕ) (b : Bool) (t : Tree) (less more : Option Tree) → less ≡ option_map (cut n) more → (if b then Some (cut n t) else less) ≡ option_map (cut n) (if b then Some t else more)
chosen n true t less more is = refl
chosen n false t less more is = is

field_cut : (n : ℕ) (name : List ℕ) (ms : Members) → field name (cut_members n ms) ≡ option_map (cut n) (field name ms)
field_cut n name no_members = refl
field_cut n name (member k t ms) = chosen n (bytes_eq name k) t (field name (cut_members n ms)) (field name ms) (field_cut n name ms)

-- a field that is required, and what is read from its value
required_cut : {A : Type 0} (n : ℕ) (place : Place) (read : Tree → Verdict A) (o : Option Tree) → ((t : Tree) → read (cut n t) ≡ read t) → (required place (option_map (cut n) o) >>= read) ≡ (required place o >>= read)
required_cut n place read None same = refl
required_cut n place read (Some t) same = same t

from_required : {A : Type 0} (n : ℕ) (place : Place) (name : List ℕ) (read : Tree → Verdict A) (ms : Members) → ((t : Tree) → read (cut n t) ≡ read t) → (required place (field name (cut_members n ms)) >>= read) ≡ (required place (field name ms) >>= read)
from_required n place name read ms same = ap (λ o. required place o >>= read) (field_cut n name ms) ∙ required_cut n place read (field name ms) same

array_cut : {A : Type 0} (n : ℕ) (place : Place) (read : Elements → Verdict A) (t : Tree) → ((es : Elements) → read (cut_elements n es) ≡ read es) → (array_in place (cut (suc n) t) >>= read) ≡ (array_in place t >>= read)
array_cut n place read null same = refl
array_cut n place read (boolean b) same = refl
array_cut n place read (int i) same = refl
array_cut n place read (text s) same = refl
array_cut n place read (bytes s) same = refl
array_cut n place read (array es) same = same es
array_cut n place read (object ms) same = refl

object_cut : {A : Type 0} (n : ℕ) (place : Place) (read : Members → Verdict A) (t : Tree) → ((ms : Members) → read (cut_members n ms) ≡ read ms) → (object_in place (cut (suc n) t) >>= read) ≡ (object_in place t >>= read)
object_cut n place read null same = refl
object_cut n place read (boolean b) same = refl
object_cut n place read (int i) same = refl
object_cut n place read (text s) same = refl
object_cut n place read (bytes s) same = refl
object_cut n place read (array es) same = refl
object_cut n place read (object ms) same = same ms

each_cut : {A : Type 0} (n : ℕ) (place : ℕ → Place) (most : ℕ) (read : Place → List A → Tree → Verdict A) (found : List A) (es : Elements) → ((p : Place) (xs : List A) (t : Tree) → read p xs (cut n t) ≡ read p xs t)
    → each place most read found (cut_elements n es) ≡ each place most read found es
each_cut n place most read found no_elements same = refl
each_cut n place most read found (element t es) same = λ i. if nat_le most (length found) then Err (misfit (place (length found)) Range) else (same (place (length found)) found t i >>= λ x. each_cut n place most read (found ++ x ∷ []) es same i)

-- ---- pools

-- a pool of the values of its fields
abbrev pool_from : Place → List PoolPlan → Option Tree → Option Tree → Verdict PoolPlan
pool_from place earlier name size = required place name >>= λ value. (name_in place value >>= λ given. (if_new place earlier given >>= λ name. (required place size >>= λ value. (number_in place 1 20 value >>= λ size. Ok (record { name = name; size = size })))))

pool_from_cut : (n : ℕ) (place : Place) (earlier : List PoolPlan) (name size : Option Tree) → pool_from place earlier (option_map (cut n) name) (option_map (cut n) size) ≡ pool_from place earlier name size
pool_from_cut n place earlier None size = refl
pool_from_cut n place earlier (Some t) None = λ i. (name_cut n place t i >>= λ given. (if_new place earlier given >>= λ name. Err (misfit place Missing)))
pool_from_cut n place earlier (Some t) (Some u) = λ i. (name_cut n place t i >>= λ given. (if_new place earlier given >>= λ name. (number_cut n place 1 20 u i >>= λ size. Ok (record { name = name; size = size }))))

pool_cut : (n : ℕ) (place : Place) (earlier : List PoolPlan) (t : Tree) → pool_in place earlier (cut (suc n) t) ≡ pool_in place earlier t
unfolding pool_in
pool_cut n place earlier t = object_cut n place (λ fields. pool_from place earlier (field (codes "name") fields) (field (codes "size") fields)) t
    (λ ms. (λ i. pool_from place earlier (field_cut n (codes "name") ms i) (field_cut n (codes "size") ms i)) ∙ pool_from_cut n place earlier (field (codes "name") ms) (field (codes "size") ms))

each_pool_cut : (n : ℕ) (es : Elements) → each_pool (cut_elements (suc n) es) ≡ each_pool es
each_pool_cut n es = each_cut (suc n) Pool 8 pool_in [] es (λ p xs t. pool_cut n p xs t)

all_pools_cut : (n : ℕ) (o : Option Tree) → all_pools (option_map (cut (suc (suc n))) o) ≡ all_pools o
all_pools_cut n None = refl
all_pools_cut n (Some t) = array_cut (suc n) (Pool 0) each_pool t (each_pool_cut n)

pools_cut : (n version : ℕ) (ms : Members) → pools_in version (cut_members (suc (suc n)) ms) ≡ pools_in version ms
unfolding pools_in
pools_cut n version ms = ap (λ pools. if version == 2 then pools else Ok []) (ap all_pools (field_cut (suc (suc n)) (codes "pools") ms) ∙ all_pools_cut n (field (codes "pools") ms))

-- ---- deployments

kind_cut : (n : ℕ) (place : Place) (ms : Members) → kind_in place (cut_members n ms) ≡ kind_in place ms
unfolding kind_in
kind_cut n place ms = from_required n place (codes "kind") (λ value. text_in place value >>= if_kind place) ms (λ t. ap (λ read. read >>= if_kind place) (text_cut n place t))

address_cut : (n : ℕ) (place : Place) (ms : Members) → address_in place (cut_members n ms) ≡ address_in place ms
unfolding address_in
address_cut n place ms = from_required n place (codes "address") (name_in place) ms (name_cut n place)

named_pool_cut : (n : ℕ) (place : Place) (pools : List PoolPlan) (o : Option Tree) → named_pool place pools (option_map (cut n) o) ≡ named_pool place pools o
named_pool_cut n place pools None = refl
named_pool_cut n place pools (Some t) = ap (λ read. read >>= if_pool place pools) (text_cut n place t)

pool_of_cut : (n : ℕ) (place : Place) (version : ℕ) (pools : List PoolPlan) (ms : Members) → pool_of place version pools (cut_members n ms) ≡ pool_of place version pools ms
unfolding pool_of
pool_of_cut n place version pools ms = ap (λ pool. if version == 2 then pool else Ok None) (ap (named_pool place pools) (field_cut n (codes "pool") ms) ∙ named_pool_cut n place pools (field (codes "pool") ms))

numbers_or_none_cut : (n : ℕ) (place : Place) (o : Option Tree) → numbers_or_none place (option_map (cut (suc n)) o) ≡ numbers_or_none place o
numbers_or_none_cut n place None = refl
numbers_or_none_cut n place (Some t) = array_cut n place (numbers_in place) t (numbers_cut n place)

config_cut : (n : ℕ) (place : Place) (kind : List ℕ) (ms : Members) → config_in place kind (cut_members (suc n) ms) ≡ config_in place kind ms
unfolding config_in
config_cut n place kind ms = ap (λ numbers. numbers >>= if_suits place kind) (ap (numbers_or_none place) (field_cut (suc n) (codes "config") ms) ∙ numbers_or_none_cut n place (field (codes "config") ms))

to_cut : (n : ℕ) (place : Place) (otherwise : List ℕ) (ms : Members) → name_or otherwise place (field (codes "to") (cut_members n ms)) ≡ name_or otherwise place (field (codes "to") ms)
to_cut n place otherwise ms = ap (name_or otherwise place) (field_cut n (codes "to") ms) ∙ name_or_cut n otherwise place (field (codes "to") ms)

number_field_cut : (n otherwise : ℕ) (place : Place) (least most : ℕ) (name : List ℕ) (ms : Members) → number_or otherwise place least most (field name (cut_members n ms)) ≡ number_or otherwise place least most (field name ms)
number_field_cut n otherwise place least most name ms = ap (number_or otherwise place least most) (field_cut n name ms) ∙ number_or_cut n otherwise place least most (field name ms)

flag_field_cut : (n : ℕ) (place : Place) (name : List ℕ) (ms : Members) → flag_in place (field name (cut_members n ms)) ≡ flag_in place (field name ms)
flag_field_cut n place name ms = ap (flag_in place) (field_cut n name ms) ∙ flag_cut n place (field name ms)

planned_cut : (n version : ℕ) (pools : List PoolPlan) (place : Place) (t : Tree) → planned_in version pools place (cut (suc (suc n)) t) ≡ planned_in version pools place t
unfolding planned_in
planned_cut n version pools place t = object_cut (suc n) place _ t (λ ms i. (
    kind_cut (suc n) place ms i >>= λ kind. (
    address_cut (suc n) place ms i >>= λ address. (
    to_cut (suc n) place address ms i >>= λ to. (
    number_field_cut (suc n) 1 place 1 64 (codes "instances") ms i >>= λ instances. (
    flag_field_cut (suc n) place (codes "worker") ms i >>= λ worker. (
    pool_of_cut (suc n) place version pools ms i >>= λ pool. (
    config_cut n place kind ms i >>= λ config.
    Ok (record { spec = record { kind = kind; address = address; to = to; config = config }; instances = instances; worker = worker; pool = pool })))))))))

each_planned_cut : (n version : ℕ) (pools : List PoolPlan) (es : Elements) → each_planned version pools (cut_elements (suc (suc n)) es) ≡ each_planned version pools es
each_planned_cut n version pools es = each_cut (suc (suc n)) Deployment 64 (λ place earlier item. planned_in version pools place item) [] es (λ p xs t. planned_cut n version pools p t)

deployments_cut : (n version : ℕ) (pools : List PoolPlan) (ms : Members) → deployments_in version pools (cut_members (suc (suc (suc n))) ms) ≡ deployments_in version pools ms
unfolding deployments_in
deployments_cut n version pools ms = from_required (suc (suc (suc n))) (Deployment 0) (codes "deployments") (λ value. array_in (Deployment 0) value >>= each_planned version pools) ms
    (λ t. array_cut (suc (suc n)) (Deployment 0) (each_planned version pools) t (each_planned_cut n version pools))

-- ---- files

version_cut : (n : ℕ) (ms : Members) → version_in (cut_members n ms) ≡ version_in ms
unfolding version_in
version_cut n ms = ap as_version (from_required n File (codes "version") (number_in File 1 2) ms (number_cut n File 1 2))

no_bridge_cut : (n : ℕ) (o : Option Tree) → no_bridge (option_map (cut n) o) ≡ no_bridge o
no_bridge_cut n None = refl
no_bridge_cut n (Some t) = refl

bridge_cut : (n : ℕ) (ms : Members) → no_bridge (field (codes "bridge") (cut_members n ms)) ≡ no_bridge (field (codes "bridge") ms)
bridge_cut n ms = ap no_bridge (field_cut n (codes "bridge") ms) ∙ no_bridge_cut n (field (codes "bridge") ms)

file_cut_at : (n : ℕ) (ms : Members) → file_of (cut_members (suc (suc (suc n))) ms) ≡ file_of ms
unfolding file_of
file_cut_at n ms = λ i. (
    version_cut (suc (suc (suc n))) ms i >>= λ version. (
    number_field_cut (suc (suc (suc n))) 2 Loops 1 16 (codes "loops") ms i >>= λ loops. (
    number_field_cut (suc (suc (suc n))) 2 Workers 1 20 (codes "workers") ms i >>= λ workers. (
    pools_cut (suc n) version ms i >>= λ pools. (
    number_field_cut (suc (suc (suc n))) 0 Until 0 1000000000000 (codes "until") ms i >>= λ until. (
    deployments_cut n version pools ms i >>= λ deployments. (
    bridge_cut (suc (suc (suc n))) ms i >>= λ nothing.
    Ok (record { loops = loops; workers = workers; pools = pools; until = until; deployments = deployments }))))))))

pub file_cut : (ms : Members) → file_of (cut_members 3 ms) ≡ file_of ms
file_cut ms = file_cut_at 0 ms
