-- A device's lines, one after the other.
use Rattle.std.proofs.Common.{◌≡◌, ℕ, List, [], ◌∷◌, ◌++◌, refl, ap, ◌∙◌, sym, subst, append_assoc, append-nil, Bool, true, false, ◌||◌, Option, None, Some}
use Rattle.budget_ports.specs.Exchanges.{Exchange, Adds}
use Rattle.budget_ports.specs.Faults.{count_after}
use Rattle.budget_ports.specs.Readings.{Readings, Takes, TakesAll, rest_of}
use Rattle.command_lines.specs.Replies.{reply_text_of}
use Rattle.budget_top.specs.Session.{asked, is_refused}
use Rattle.device_sync.specs.declared.target.Target.{Target}
use Rattle.budget_top.specs.Doing.{Running, said, IsWhole, Finds, fails_link}
use Rattle.budget_top.specs.Course.{Input, step, after, replies, some_refused, talks, AreWhole, AreFound, link_faults_after}
use Rattle.budget_top.specs.Standing.{lines_of, readings_of}

pub after-last : (t : Target) (r : Running) (is : List Input) (i : Input) → after t r (is ++ i ∷ []) ≡ (step t (after t r is) i).0
after-last t r [] i = refl
after-last t r (j ∷ is) i = after-last t (step t r j).0 is i

pub replies-last : (t : Target) (r : Running) (is : List Input) (i : Input) → replies t r (is ++ i ∷ []) ≡ replies t r is ++ reply_text_of (step t (after t r is) i).1
replies-last t r [] i = append-nil (reply_text_of (step t r i).1)
replies-last t r (j ∷ is) i =
    ap (λ x. reply_text_of (step t r j).1 ++ x) (replies-last t (step t r j).0 is i)
    ∙ sym (append_assoc (reply_text_of (step t r j).1) (replies t (step t r j).0 is) (reply_text_of (step t (after t (step t r j).0 is) i).1))

or_assoc : (a b c : Bool) → ((a || b) || c) ≡ (a || (b || c))
or_assoc true b c = refl
or_assoc false b c = refl

or_false : (a : Bool) → (a || false) ≡ a
or_false true = refl
or_false false = refl

pub refused-last : (t : Target) (r : Running) (is : List Input) (i : Input) → some_refused t r (is ++ i ∷ []) ≡ (some_refused t r is || is_refused (step t (after t r is) i).1)
refused-last t r [] i = or_false (is_refused (step t r i).1)
refused-last t r (j ∷ is) i =
    ap (λ b. is_refused (step t r j).1 || b) (refused-last t (step t r j).0 is i)
    ∙ sym (or_assoc (is_refused (step t r j).1) (some_refused t (step t r j).0 is) (is_refused (step t (after t (step t r j).0 is) i).1))

pub lines-last : (is : List Input) (i : Input) → lines_of (is ++ i ∷ []) ≡ lines_of is ++ i.line ∷ []
lines-last [] i = refl
lines-last (j ∷ is) i = ap (λ ls. j.line ∷ ls) (lines-last is i)

pub readings-last : (is : List Input) (i : Input) → readings_of (is ++ i ∷ []) ≡ readings_of is ++ i.given.reading ∷ []
readings-last [] i = refl
readings-last (j ∷ is) i = ap (λ rs. j.given.reading ∷ rs) (readings-last is i)

pub talks-last : (is : List Input) (i : Input) → talks (is ++ i ∷ []) ≡ talks is ++ said i.given
talks-last [] i = append-nil (said i.given)
talks-last (j ∷ is) i = ap (λ xs. said j.given ++ xs) (talks-last is i) ∙ sym (append_assoc (said j.given) (talks is) (said i.given))

pub whole-last : (t : Target) (r : Running) (is : List Input) (i : Input) → AreWhole t r is → IsWhole t (after t r is).state i.given (asked i.line) → AreWhole t r (is ++ i ∷ [])
whole-last t r [] i all one = (one, tt)
whole-last t r (j ∷ is) i all one = (all.0, whole-last t (step t r j).0 is i all.1 one)

pub found-last : (t : Target) (r : Running) (is : List Input) (i : Input) → AreFound t r is → Finds i.given (asked i.line) (after t r is).synced → AreFound t r (is ++ i ∷ [])
found-last t r [] i all one = (one, tt)
found-last t r (j ∷ is) i all one = (all.0, found-last t (step t r j).0 is i all.1 one)

pub faults-last : (t : Target) (r : Running) (n : ℕ) (is : List Input) (i : Input)
    → link_faults_after t r n (is ++ i ∷ []) ≡ count_after (fails_link (after t r is).state i.given (asked i.line)) (link_faults_after t r n is)
faults-last t r n [] i = refl
faults-last t r n (j ∷ is) i = faults-last t (step t r j).0 (count_after (fails_link r.state j.given (asked j.line)) n) is i

all_then : (a b c : Readings) (xs ys : List ℕ) → TakesAll a b xs → TakesAll b c ys → TakesAll a c (xs ++ ys)
all_then a b c [] ys h k = subst (λ (r : Readings). TakesAll r c ys) h k
all_then a b c (x ∷ xs) ys h k = (h.0, all_then (rest_of a) b c xs ys h.1 k)

pub takes_then : (a b c : Option Readings) (xs ys : List ℕ) → Takes a b xs → Takes b c ys → Takes a c (xs ++ ys)
takes_then None b c xs ys h k = tt
takes_then (Some a) None c xs ys h k = absurd h
takes_then (Some a) (Some b) None xs ys h k = absurd k
takes_then (Some a) (Some b) (Some c) xs ys h k = all_then a b c xs ys h k

pub takes_none : (a : Option Readings) → Takes a a []
takes_none None = tt
takes_none (Some r) = refl

pub adds_none : (a : Option (List Exchange)) → Adds a a []
adds_none None = tt
adds_none (Some xs) = sym (append-nil xs)

pub adds_then : (a b c : Option (List Exchange)) (xs ys : List Exchange) → Adds a b xs → Adds b c ys → Adds a c (xs ++ ys)
adds_then None b c xs ys h k = tt
adds_then (Some a) None c xs ys h k = absurd h
adds_then (Some a) (Some b) None xs ys h k = absurd k
adds_then (Some a) (Some b) (Some c) xs ys h k = k ∙ ap (λ l. l ++ ys) h ∙ append_assoc a xs ys
