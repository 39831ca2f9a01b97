-- What each step of a reading gave, where the reading gave a value; and readings put together from their steps.
use Rattle.std.proofs.Common.{◌≡◌, refl, sym, ◌∙◌, ap, ℕ, ℤ, pos, negsuc, ◌<◌, ◌≤◌, List, [], ◌∷◌, ◌++◌, length, map, append_assoc, append-nil, Bool, true, false, ◌&&◌, nat_le, Option, Some, None, Ok, Err, if◌then◌else◌, arith, subst}
use Rattle.std.proofs.lemmas.Bool.Decides.{nat_tests}
use Rattle.vx_data.specs.Bodies.{elements}
use Rattle.vx_data.specs.BodyText.{body_text}
use Rattle.vx_data.specs.Tree.{Tree, null, boolean, int, text, bytes, array, object, Elements, no_elements, element, Members}
use Rattle.vx_deployfile.specs.declared.fault.FileRefused.{FileRefused}
use Rattle.vx_deployfile.specs.declared.fault.FileWhy.TheVariants.{Range}
use Rattle.vx_deployfile.specs.declared.fault.Place.{Place}
use Rattle.vx_deployfile.specs.Fields.{misfit, required, object_in, array_in, number_in, text_in, if_name, name_in, flag_in, int_in, numbers_in}
use Rattle.vx_deployfile.specs.Files.{each}
use Rattle.vx_deployfile.specs.Texts.{number}
use Rattle.vx_deployfile.specs.Verdicts.{Verdict, ◌>>=◌}
use Rattle.vx_deployfile.proofs.Sizes.{array_parts}

abbrev ok : {A : Type 0} → A → Verdict A
ok x = Ok x

pub ok_same : {A : Type 0} (x y : A) → ok x ≡ ok y → x ≡ y
ok_same x y h = cc

-- what holds of a value that was made holds of the one that was told
pub told : {A : Type 0} (P : A → Type 0) (made x : A) → ok made ≡ Ok x → P made → P x
told P made x h holds = subst P (ok_same made x h) holds

pub then_ok : {A B : Type 0} (v : Verdict A) (f : A → Verdict B) (y : B) → (v >>= f) ≡ Ok y → (x : A) × (v ≡ Ok x) × (f x ≡ Ok y)
then_ok (Ok x) f y h = (x, refl, h)
then_ok (Err fault) f y h = absurd (cc)

pub onward : {A B : Type 0} (v : Verdict A) (f : A → Verdict B) (x : A) (w : Verdict B) → v ≡ Ok x → f x ≡ w → (v >>= f) ≡ w
onward v f x w is next = ap (λ u. u >>= f) is ∙ next

pub if_ok : {A : Type 0} (test : Bool) (x y : A) (fault : FileRefused) → (if test then ok x else Err fault) ≡ Ok y → (test ≡ true) × (x ≡ y)
if_ok true x y fault h = (refl, ok_same x y h)
if_ok false x y fault h = absurd (cc)

pub else_ok : {A : Type 0} (test : Bool) (v : Verdict A) (y : A) (fault : FileRefused) → (if test then Err fault else v) ≡ Ok y → (test ≡ false) × (v ≡ Ok y)
else_ok true v y fault h = absurd (cc)
else_ok false v y fault h = (refl, h)

-- ---- values

pub required_read : (place : Place) (t : Tree) (o : Option Tree) → required place o ≡ Ok t → o ≡ Some t
required_read place t None h = absurd (cc)
required_read place t (Some u) h = ap Some (ok_same u t h)

pub object_read : (place : Place) (ms : Members) (t : Tree) → object_in place t ≡ Ok ms → t ≡ object ms
object_read place ms null h = absurd (cc)
object_read place ms (boolean b) h = absurd (cc)
object_read place ms (int n) h = absurd (cc)
object_read place ms (text s) h = absurd (cc)
object_read place ms (bytes s) h = absurd (cc)
object_read place ms (array es) h = absurd (cc)
object_read place ms (object ls) h = ap object (ok_same ls ms h)

pub array_read : (place : Place) (es : Elements) (t : Tree) → array_in place t ≡ Ok es → t ≡ array es
array_read place es null h = absurd (cc)
array_read place es (boolean b) h = absurd (cc)
array_read place es (int n) h = absurd (cc)
array_read place es (text s) h = absurd (cc)
array_read place es (bytes s) h = absurd (cc)
array_read place es (array ds) h = ap array (ok_same ds es h)
array_read place es (object ms) h = absurd (cc)

pub text_read : (place : Place) (s : List ℕ) (t : Tree) → text_in place t ≡ Ok s → t ≡ text s
text_read place s null h = absurd (cc)
text_read place s (boolean b) h = absurd (cc)
text_read place s (int n) h = absurd (cc)
text_read place s (text r) h = ap text (ok_same r s h)
text_read place s (bytes r) h = absurd (cc)
text_read place s (array es) h = absurd (cc)
text_read place s (object ms) h = absurd (cc)

-- a number with its limits
pub record IsNumber (least most n : ℕ) (t : Tree) : Type 0 where
  pub is : t ≡ number n
  pub low : least ≤ n
  pub high : n ≤ most

low_bound : (least n most : ℕ) → (nat_le least n && nat_le n most) ≡ true → least ≤ n
low_bound least n most h = grind (arith, nat_tests)

high_bound : (least n most : ℕ) → (nat_le least n && nat_le n most) ≡ true → n ≤ most
high_bound least n most h = grind (arith, nat_tests)

within : (least n most : ℕ) → least ≤ n → n ≤ most → (nat_le least n && nat_le n most) ≡ true
within least n most low high = grind (arith, nat_tests)

pub number_read : (place : Place) (least most n : ℕ) (t : Tree) → number_in place least most t ≡ Ok n → IsNumber least most n t
number_read place least most n null h = absurd (cc)
number_read place least most n (boolean b) h = absurd (cc)
number_read place least most n (int (pos m)) h =
    let found = if_ok (nat_le least m && nat_le m most) m n (misfit place Range) h in
    record { is = ap number found.1; low = subst (λ k. least ≤ k) found.1 (low_bound least m most found.0); high = subst (λ k. k ≤ most) found.1 (high_bound least m most found.0) }
number_read place least most n (int (negsuc m)) h = absurd (cc)
number_read place least most n (text s) h = absurd (cc)
number_read place least most n (bytes s) h = absurd (cc)
number_read place least most n (array es) h = absurd (cc)
number_read place least most n (object ms) h = absurd (cc)

pub number_fits : (place : Place) (least most n : ℕ) → least ≤ n → n ≤ most → number_in place least most (number n) ≡ Ok n
number_fits place least most n low high = ap (λ test. if test then Ok n else Err (misfit place Range)) (within least n most low high)

-- a text of 1 to 1,024 bytes
pub record IsNamed (place : Place) (s : List ℕ) (t : Tree) : Type 0 where
  pub is : t ≡ text s
  pub fits : name_in place (text s) ≡ Ok s
  pub long : 1 ≤ length s
  pub short : length s ≤ 1024

pub name_read : (place : Place) (s : List ℕ) (t : Tree) → name_in place t ≡ Ok s → IsNamed place s t
name_read place s t h =
    let given = then_ok (text_in place t) (if_name place) s h in
    let found = if_ok (nat_le 1 (length given.0) && nat_le (length given.0) 1024) given.0 s (misfit place Range) given.2 in
    record {
      is = text_read place given.0 t given.1 ∙ ap text found.1;
      fits = subst (λ r. if_name place r ≡ Ok s) found.1 given.2;
      long = subst (λ (r : List ℕ). 1 ≤ length r) found.1 (low_bound 1 (length given.0) 1024 found.0);
      short = subst (λ (r : List ℕ). length r ≤ 1024) found.1 (high_bound 1 (length given.0) 1024 found.0);
    }

pub flag_there : (place : Place) (o : Option Tree) → flag_in place o ≡ Ok true → o ≡ Some (boolean true)
flag_there place None h = absurd (cc)
flag_there place (Some null) h = absurd (cc)
flag_there place (Some (boolean b)) h = ap (λ c. Some (boolean c)) (ok_same b true h)
flag_there place (Some (int n)) h = absurd (cc)
flag_there place (Some (text s)) h = absurd (cc)
flag_there place (Some (bytes s)) h = absurd (cc)
flag_there place (Some (array es)) h = absurd (cc)
flag_there place (Some (object ms)) h = absurd (cc)

int_read : (place : Place) (n : ℤ) (t : Tree) → int_in place t ≡ Ok n → t ≡ int n
int_read place n null h = absurd (cc)
int_read place n (boolean b) h = absurd (cc)
int_read place n (int m) h = ap int (ok_same m n h)
int_read place n (text s) h = absurd (cc)
int_read place n (bytes s) h = absurd (cc)
int_read place n (array es) h = absurd (cc)
int_read place n (object ms) h = absurd (cc)

pub numbers_read : (place : Place) (ns : List ℤ) (es : Elements) → numbers_in place es ≡ Ok ns → es ≡ elements (map int ns)
numbers_read place ns no_elements h = ap (λ (xs : List ℤ). elements (map int xs)) (ok_same [] ns h)
numbers_read place ns (element t es) h =
    let first = then_ok (int_in place t) (λ n. (numbers_in place es >>= λ numbers. Ok (n ∷ numbers))) ns h in
    let more = then_ok (numbers_in place es) (λ numbers. Ok (first.0 ∷ numbers)) ns first.2 in
    (λ i. element (int_read place first.0 t first.1 i) (numbers_read place more.0 es more.1 i)) ∙ ap (λ (xs : List ℤ). elements (map int xs)) (ok_same (first.0 ∷ more.0) ns more.2)

pub numbers_again : (place : Place) (ns : List ℤ) → numbers_in place (elements (map int ns)) ≡ Ok ns
numbers_again place [] = refl
numbers_again place (n ∷ ns) = ap (λ v. v >>= λ numbers. Ok (n ∷ numbers)) (numbers_again place ns)

fewer : (most n : ℕ) → nat_le most n ≡ false → n < most
fewer most n h = grind (arith, nat_tests)

-- ---- items of an array

-- Behind those that were found come the rest. Written as `tree` has it, an item is read `again`, and its array is no longer than the one that was read.
pub record IsEachAgain {A : Type 0} (place : ℕ → Place) (most : ℕ) (again : Place → List A → Tree → Verdict A) (tree : A → Tree) (found all : List A) (es : Elements) : Type 0 where
  pub rest : List A
  pub whole : all ≡ found ++ rest
  pub once_more : each place most again found (elements (map tree rest)) ≡ Ok all
  pub small : array_parts (elements (map tree rest)) ≤ array_parts es

module _ {A : Type 0} (place : ℕ → Place) (most : ℕ) (read again : Place → List A → Tree → Verdict A) (tree : A → Tree)
    (same : (p : Place) (xs : List A) (t : Tree) (x : A) → read p xs t ≡ Ok x → again p xs (tree x) ≡ Ok x)
    (less : (p : Place) (xs : List A) (t : Tree) (x : A) → read p xs t ≡ Ok x → length (body_text (tree x)) ≤ length (body_text t)) where
  each_again : (es : Elements) (found all : List A) → each place most read found es ≡ Ok all → IsEachAgain place most again tree found all es
  each_again no_elements found all h = record { rest = []; whole = sym (ok_same found all h) ∙ sym (append-nil found); once_more = h; small = omega arith }
  each_again (element t es) found all h =
      let p = place (length found) in
      let inner = else_ok (nat_le most (length found)) (read p found t >>= λ x. each place most read (found ++ x ∷ []) es) all (misfit p Range) h in
      let first = then_ok (read p found t) (λ x. each place most read (found ++ x ∷ []) es) all inner.1 in
      let more = each_again es (found ++ first.0 ∷ []) all first.2 in
      record {
        rest = first.0 ∷ more.rest;
        whole = more.whole ∙ append_assoc found (first.0 ∷ []) more.rest;
        once_more =
            ap (λ test. if test then Err (misfit p Range) else (again p found (tree first.0) >>= λ x. each place most again (found ++ x ∷ []) (elements (map tree more.rest)))) inner.0
            ∙ onward (again p found (tree first.0)) (λ x. each place most again (found ++ x ∷ []) (elements (map tree more.rest))) first.0 (Ok all) (same p found t first.0 first.1) more.once_more;
        small = omega (arith, less p found t first.0 first.1, more.small);
      }

  -- all items of an array
  pub all_again : (es : Elements) (all : List A) → each place most read [] es ≡ Ok all → each place most again [] (elements (map tree all)) ≡ Ok all
  all_again es all h = let found = each_again es [] all h in subst (λ (xs : List A). each place most again [] (elements (map tree xs)) ≡ Ok all) (sym found.whole) found.once_more

  pub all_small : (es : Elements) (all : List A) → each place most read [] es ≡ Ok all → array_parts (elements (map tree all)) ≤ array_parts es
  all_small es all h = let found = each_again es [] all h in subst (λ (xs : List A). array_parts (elements (map tree xs)) ≤ array_parts es) (sym found.whole) found.small

-- What holds of the items found so far, and stays with each further one, holds of all.
pub each_keeps : {A : Type 0} (place : ℕ → Place) (most : ℕ) (read : Place → List A → Tree → Verdict A) (P : List A → Type 0)
    → ((p : Place) (xs : List A) (t : Tree) (x : A) → read p xs t ≡ Ok x → length xs < most → P xs → P (xs ++ x ∷ []))
    → (es : Elements) (found all : List A) → each place most read found es ≡ Ok all → P found → P all
each_keeps place most read P more no_elements found all h holds = subst P (ok_same found all h) holds
each_keeps place most read P more (element t es) found all h holds =
    let p = place (length found) in
    let inner = else_ok (nat_le most (length found)) (read p found t >>= λ x. each place most read (found ++ x ∷ []) es) all (misfit p Range) h in
    let first = then_ok (read p found t) (λ x. each place most read (found ++ x ∷ []) es) all inner.1 in
    each_keeps place most read P more es (found ++ first.0 ∷ []) all first.2 (more p found t first.0 first.1 (fewer most (length found) inner.0) holds)
