-- Members, one and many: what is read from a place is derived, and what is derived is read.
use Rattle.std.specs.Prelude.{◌≡◌, ℕ, zero, suc, ◌+◌, ◌-◌, ◌<◌, ◌≤◌, Bool, true, false, eqb, List, [], ◌∷◌, ◌++◌, length}
use mathlib.Core.Path.{refl, ap, ◌∙◌, sym, subst}
use mathlib.Core.List.{append_assoc, append-nil}
use native.Mathlib.Omega.{arith}
use borrow.Author.Tests.{eq-eqb, ne_eqb}
use Rattle.numbers.proofs.Flags.{chosen}
use Rattle.numbers.specs.Told.{choose}
use Rattle.poses.specs.Json.{Language, ◌then◌, one, ws, is_blank, value, Member, quoted, member, members}
use Rattle.poses.specs.How.{byte, past, after, token, value_at, name_end, member_at, Found, found_from}
use Rattle.poses.proofs.Spans.{Spans, ◌and_then◌, spans_as, after_spans, past_spans}
use Rattle.poses.proofs.Spans.{At, at_first, after_at, past_at, taken_apart, opened, begins_with, after_then, past_then}
use Rattle.poses.proofs.Spans.{at_end, then_right, then_left, then_as, then_long}
use Rattle.poses.proofs.ValuesExact.{value_spans, value_at_lem, value_begins}
use Rattle.poses.proofs.NamesExact.{Unquoted, name_from, name_spans, name_at}

-- ---- one member
member_spans : (s : List ℕ) (i : ℕ) → (member_at s i).next ≤ length s
    → Spans s i (member_at s i).next (member (member_at s i).member then ws)
unfolding member_at
member_spans s i h =
    let from = after 34 s i in
    let end = name_end s from in
    let at = token 58 s (past s end) in
    let w3 = past_spans s (value_at s at).next h in
    let v = value_spans s at w3.from_in in
    let w2 = past_spans s (after 58 s (past s end)) v.from_in in
    let colon = after_spans 58 s (past s end) w2.from_in in
    let w1 = past_spans s end colon.from_in in
    let named = name_spans s from w1.from_in in
    let quote = after_spans 34 s i named.from_in in
    let whole : Spans s i end (quoted (name_from s from end)) =
    spans_as {P = one 34 then Unquoted (name_from s from end)}
    (λ t d. (
      d.4.0,
      d.2 ∙ ap (λ (u : List ℕ). u ++ d.1) d.3 ∙ ap (λ (u : List ℕ). 34 ∷ u) d.4.1,
    )) (quote and_then named) in
    (whole and_then w1 and_then colon and_then w2 and_then v) and_then w3

-- a member's text behind its first quote, and what follows the name
abbrev Behind : Member → Language
Behind m = ws then one 58 then ws then value m.value

member_at_lem : (s : List ℕ) (i : ℕ) (m : Member) (t w u : List ℕ) → member m t → ws w → is_blank (byte u 0) ≡ false →
    At s i (t ++ (w ++ u))
    → ((member_at s i).member ≡ m) × At s (member_at s i).next u
unfolding member_at
member_at_lem s i m t w u d blank no_blank x =
    let r = w ++ u in
    let q = d.3 in
    let rest = d.1 ++ r in
    let text : d.0 ++ rest ≡ 34 ∷ (m.name ++ (34 ∷ rest)) =
    ap (λ (v : List ℕ). v ++ rest) q.1 ∙ ap (λ (v : List ℕ). 34 ∷ v) (append_assoc m.name (34 ∷ []) rest) in
    let from = after 34 s i in
    let a1 : At s from (m.name ++ (34 ∷ rest)) =
    after_at 34 (m.name ++ (34 ∷ rest)) (subst (At s i) text (opened (quoted m.name) (Behind m) t r d x)) in
    let n = name_at s from m.name rest q.0 a1 in
    let end = name_end s from in
    let d1 = d.4 in
    let c = d1.4 in
    let w2 = c.4 in
    let a2 : At s (past s end) (d1.1 ++ r) =
    past_then (one 58 then ws then value m.value) d.1 r d1
    (ap is_blank (begins_with 58 (ws then value m.value) d1.1 r c)) n.1 in
    let a3 : At s (after 58 s (past s end)) (c.1 ++ r) = after_then 58 (ws then value m.value) d1.1 r c a2 in
    let a4 : At s (token 58 s (past s end)) (w2.1 ++ r) =
    past_then (value m.value) c.1 r w2 (value_begins m.value w2.1 r w2.4) a3 in
    let v = value_at_lem s (token 58 s (past s end)) m.value w2.1 r w2.4 a4 in
    (λ k. record { name = n.0 k; value = v.0 k }, past_at w u v.1 blank no_blank)

-- ---- members and what closes them; of no member nothing is derived here
abbrev pub Some : List Member → Language
Some [] t = ⊥
Some (m ∷ ms) t = (members m ms then ws then one 125 then ws) t

-- one member in front of others, and one alone
abbrev Close : Language
Close = ws then one 125 then ws

one_more : (m : Member) (ms : List Member) (t : List ℕ) → ((member m then ws) then one 44 then ws then Some ms) t → Some (m ∷ ms) t
one_more m [] t d = absurd d.4.4.4
one_more m (n ∷ ms) t d =
    let N = members n ms in
    let f1 : (u : List ℕ) → (one 44 then ws then N then Close) u → ((one 44 then ws then N) then Close) u =
    λ u e.
    then_left (one 44) (ws then N) Close u (then_as (one 44) (ws then N then Close) ((ws then N) then Close) (then_left ws N Close) u e) in
    let f2 : (u : List ℕ) → (ws then one 44 then ws then N then Close) u → ((ws then one 44 then ws then N) then Close) u =
    λ u e.
    then_left ws (one 44 then ws then N) Close u
    (then_as ws (one 44 then ws then N then Close) ((one 44 then ws then N) then Close) f1 u e) in
    then_left (member m) (ws then one 44 then ws then N) Close t
    (then_as (member m) (ws then one 44 then ws then N then Close) ((ws then one 44 then ws then N) then Close) f2 t
    (then_right (member m) ws (one 44 then ws then N then Close) t d))

one_alone : (m : Member) (t : List ℕ) → ((member m then ws) then one 125 then ws) t → Some (m ∷ []) t
one_alone m t d = then_right (member m) ws (one 125 then ws) t d

-- with the others behind it, or alone
abbrev with_others : ℕ → List ℕ → ℕ → Found
with_others f s i =
    let m = member_at s i in
    let rest = found_from f s (token 44 s m.next) in
    record { members = m.member ∷ rest.members; next = rest.next }

abbrev alone : List ℕ → ℕ → Found
alone s i = let m = member_at s i in record { members = m.member ∷ []; next = token 125 s m.next }

by_comma : (f : ℕ) (s : List ℕ) (i : ℕ) (b : Bool) → eqb (byte s (member_at s i).next) 44 ≡ b
    → found_from (suc f) s i ≡ choose b (with_others f s i) (alone s i)
unfolding found_from
by_comma f s i b = ap (λ (k : Bool). choose k (with_others f s i) (alone s i))

pub found_spans : (f : ℕ) (s : List ℕ) (i : ℕ) → (found_from f s i).next ≤ length s
    → Spans s i (found_from f s i).next (Some (found_from f s i).members)
unfolding found_from
found_spans zero s i h = absurd (omega arith)
found_spans (suc f) s i h =
    let m = member_at s i in
    let rest = found_from f s (token 44 s m.next) in
    let more : rest.next ≤ length s → Spans s (token 44 s m.next) rest.next (Some rest.members) =
    found_spans f s (token 44 s m.next) in
    let either : (r : Found) → Type 0 = λ r. r.next ≤ length s → Spans s i r.next (Some r.members) in
    chosen either (eqb (byte s m.next) 44) (with_others f s i) (alone s i)
    (λ e g.
    let others = more g in
    let w = past_spans s (after 44 s m.next) others.from_in in
    let comma = after_spans 44 s m.next w.from_in in
    spans_as {P = (member m.member then ws) then one 44 then ws then Some rest.members} (one_more m.member rest.members)
    (member_spans s i comma.from_in and_then comma and_then w and_then others))
    (λ e g.
    let w = past_spans s (after 125 s m.next) g in
    let close = after_spans 125 s m.next w.from_in in
    spans_as {P = (member m.member then ws) then one 125 then ws} (one_alone m.member)
    (member_spans s i close.from_in and_then close and_then w)) h

-- ---- what is derived is read
pub members_begin : (m : Member) (ms : List Member) (t : List ℕ) → members m ms t → (v : List ℕ) × (t ≡ 34 ∷ v)
members_begin m [] t d = ((m.name ++ (34 ∷ [])) ++ d.1, d.2 ∙ ap (λ (v : List ℕ). v ++ d.1) d.3.1)
members_begin m (n ∷ ms) t d =
    let f = d.3 in (
      ((m.name ++ (34 ∷ [])) ++ f.1) ++ d.1,
      d.2 ∙ ap (λ (v : List ℕ). v ++ d.1) (f.2 ∙ ap (λ (v : List ℕ). v ++ f.1) f.3.1),
    )

abbrev Reads : ℕ → List ℕ → ℕ → List Member → Type 0
Reads f s i ms = ((found_from f s i).members ≡ ms) × ((found_from f s i).next ≡ length s)

last_at : (f : ℕ) (s : List ℕ) (i : ℕ) (m : Member) (t w u : List ℕ) → member m t → ws w → ws u → At s i (t ++ (w ++ (125 ∷ u)))
    → Reads (suc f) s i (m ∷ [])
unfolding found_from
last_at f s i m t w u d blank blank' x =
    let a = member_at_lem s i m t w (125 ∷ u) d blank refl x in
    let j = (member_at s i).next in
    let is : byte s j ≡ 125 = at_first a.1 in
    let e : found_from (suc f) s i ≡ alone s i = by_comma f s i false (ne_eqb (byte s j) 44 (omega arith)) in
    let over : At s (token 125 s j) [] =
    past_at u [] (subst (At s (after 125 s j)) (sym (append-nil u)) (after_at 125 u a.1)) blank' refl in (
      ap (λ (r : Found). r.members) e ∙ ap (λ (n : Member). n ∷ []) a.0,
      ap (λ (r : Found). r.next) e ∙ at_end over,
    )

more_at : (f : ℕ) (s : List ℕ) (i : ℕ) (m n : Member) (ms : List Member) (t r : List ℕ) (d : members m (n ∷ ms) t) → At s i (t ++ r)
    → (At s (token 44 s (member_at s i).next) (d.4.4.4.1 ++ r) → Reads f s (token 44 s (member_at s i).next) (n ∷ ms))
    → Reads (suc f) s i (m ∷ n ∷ ms)
unfolding found_from
more_at f s i m n ms t r d x others =
    let N = members n ms in
    let d1 = d.4 in
    let c = d1.4 in
    let w = c.4 in
    let j = (member_at s i).next in
    let v = members_begin n ms w.1 w.4 in
    let text : t ++ r ≡ d.0 ++ (d1.0 ++ (d1.1 ++ r)) =
    taken_apart (member m) (ws then one 44 then ws then N) t r d
    ∙ ap (λ (u : List ℕ). d.0 ++ u) (taken_apart ws (one 44 then ws then N) d.1 r d1) in
    let first : byte (d1.1 ++ r) 0 ≡ 44 = begins_with 44 (ws then N) d1.1 r c in
    let a = member_at_lem s i m d.0 d1.0 (d1.1 ++ r) d.3 d1.3 (ap is_blank first) (subst (At s i) text x) in
    let b : At s (token 44 s j) (w.1 ++ r) =
    past_then N c.1 r w (ap (λ (u : List ℕ). is_blank (byte (u ++ r) 0)) v.1) (after_then 44 (ws then N) d1.1 r c a.1) in
    let got = others b in
    let e : found_from (suc f) s i ≡ with_others f s i = by_comma f s i true (eq-eqb (byte s j) 44 (at_first a.1 ∙ first)) in (
      ap (λ (q : Found). q.members) e ∙ (λ k. a.0 k ∷ got.0 k),
      ap (λ (q : Found). q.next) e ∙ got.1,
    )

shorter : (m n : Member) (ms : List Member) (t : List ℕ) (d : members m (n ∷ ms) t) → length d.4.4.4.1 < length t
shorter m n ms t d =
    let N = members n ms in
    let d1 = d.4 in
    let c = d1.4 in
    let w = c.4 in
    let e0 : length t ≡ length d.0 + length d.1 = then_long (member m) (ws then one 44 then ws then N) t d in
    let e1 : length d.1 ≡ length d1.0 + length d1.1 = then_long ws (one 44 then ws then N) d.1 d1 in
    let e2 : length d1.1 ≡ length c.0 + length c.1 = then_long (one 44) (ws then N) d1.1 c in
    let e3 : length c.0 ≡ 1 = ap length c.3 in
    let e4 : length c.1 ≡ length w.0 + length w.1 = then_long ws N c.1 w in
    omega arith

-- for every fuel of at least as many steps as their text has bytes
pub found_at : (ms : List Member) (f : ℕ) (s : List ℕ) (i : ℕ) (m : Member) (t w u : List ℕ) → members m ms t → ws w → ws u
    → At s i (t ++ (w ++ (125 ∷ u))) → length t ≤ f → Reads f s i (m ∷ ms)
found_at [] f s i m t w u d blank blank' x enough =
    let v = members_begin m [] t d in
    let some : length t ≡ suc (length v.0) = ap length v.1 in
    let e : f ≡ suc (f - 1) = omega arith in
    subst (λ (k : ℕ). Reads k s i (m ∷ [])) (sym e) (last_at (f - 1) s i m t w u d blank blank' x)
found_at (n ∷ ms) f s i m t w u d blank blank' x enough =
    let less : length d.4.4.4.1 < length t = shorter m n ms t d in
    let few : length d.4.4.4.1 ≤ f - 1 = omega arith in
    let e : f ≡ suc (f - 1) = omega arith in
    subst (λ (k : ℕ). Reads k s i (m ∷ n ∷ ms)) (sym e)
    (more_at (f - 1) s i m n ms t (w ++ (125 ∷ u)) d x
    (λ y.
    found_at ms (f - 1) s (token 44 s (member_at s i).next) n d.4.4.4.1 w u d.4.4.4.4 blank blank' y few))
