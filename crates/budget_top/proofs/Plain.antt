-- A line that doesn't talk.
use Rattle.std.proofs.Common.{false, ◌≡◌, ◌≢◌, ◌⊎◌, inl, inr, ℕ, List, [], refl, sym, ap, ◌∙◌, subst, Bool, cond, Option, None, Result, Ok, Err, OnOk, OnErr}
use Rattle.std.specs.Prelude.{◌&&◌, IfOk, IfErr, IsErrOf}
use Rattle.budget_top.specs.declared.answer.Answer.{Answer}
use Rattle.std.specs.FinMap.{FinMap, get}
use Rattle.budget_ports.specs.Contents.{Contents, Text, text_cmp}
use Rattle.budget_ports.specs.Exchanges.{Exchange}
use Rattle.budget_ports.specs.declared.keeper.PortFault.{PortFault}
use Rattle.budget_ports.specs.declared.keeper.PortFault.TheVariants.{Failed}
use Rattle.field_merge.specs.declared.message.Message.{Message}
use Rattle.device_core.specs.Device.{State}
use Rattle.command_lines.specs.declared.command.Command.{Command}
use Rattle.command_lines.specs.declared.reply.Reply.{Reply}
use Rattle.budget_ports.specs.Faults.{count_after}
use Rattle.budget_top.specs.Session.{obeyed}
use Rattle.device_sync.specs.declared.target.Target.{Target}
use Rattle.device_sync.specs.Sync.{synced_name}
use Rattle.budget_top.specs.Doing.{Given, Running, IsPlain, IsSilent, KeepsNothing, conversed, last_synced, goes_on, synced_by, made, synced_after, done, IsWhole, IsWholeIf, Finds, FindsIf, fails_link, HasStayed, HasStayedIf, MayLeave, MayLeaveIf, HasMadeNew, HasMadeNewIf}
use Rattle.budget_top.specs.Seen.{HoldsSet, Holds}
use Rattle.budget_top.specs.Handling.{IsHandled, IsAnswered, IsUnanswered, Carries, CarriesEither, HoldsEither, HoldsSome}
use Rattle.budget_top.proofs.Folding.{adds_none}

-- what a line takes that doesn't talk
abbrev pub alone_at : ℕ → Given
alone_at reading = record { reading = reading; since = None; turns = []; late = [] }

pub silent : (reading : ℕ) → IsSilent (alone_at reading)
silent reading = record { unsought = refl; unturned = refl; unsaid = refl }

-- ---- what Doing says of a plain command

made_plain : (target : Target) (s : State) (given : Given) (command : Result Command ℕ) → IsPlain command → made target s given command ≡ obeyed s given.reading command
made_plain target s given command plain = ap (λ (b : Bool). cond b (synced_by s given) (obeyed s given.reading command)) plain

synced_plain : (target : Target) (s : State) (given : Given) (command : Result Command ℕ) (synced : Option Text) → IsPlain command → synced_after target s given command synced ≡ synced
synced_plain target s given command synced plain = ap (λ (b : Bool). cond b (last_synced (conversed s given).0 (conversed s given).1 synced) synced) plain

whole_plain : (target : Target) (s : State) (given : Given) (command : Result Command ℕ) → IsPlain command → IsSilent given → IsWhole target s given command
whole_plain target s given command plain h = let P : Bool → Type 0 = λ b. IsWholeIf b target s given in subst P (sym plain) h

found_plain : (given : Given) (command : Result Command ℕ) (synced : Option Text) → IsPlain command → Finds given command synced
found_plain given command synced plain = let P : Bool → Type 0 = λ b. FindsIf b given synced in subst P (sym plain) tt

fails_plain : (s : State) (given : Given) (command : Result Command ℕ) → IsPlain command → fails_link s given command ≡ false
fails_plain s given command plain = ap (λ (b : Bool). b && goes_on (conversed s given).1) plain

stayed_plain : (target : Target) (r : Running) (given : Given) (command : Result Command ℕ) (kept : Running) (n m : ℕ) → IsPlain command → KeepsNothing r given kept n m → HasStayed target r given command kept n m
stayed_plain target r given command kept n m plain h = let P : Bool → Type 0 = λ b. HasStayedIf b target r given kept n m in subst P (sym plain) h

left_plain : (target : Target) (r : Running) (given : Given) (command : Result Command ℕ) (left : Running) → IsPlain command → (left ≡ r) ⊎ (left ≡ (done target r given command).0) → MayLeave target r given command left
left_plain target r given command left plain h = let P : Bool → Type 0 = λ b. MayLeaveIf b target r given command left in subst P (sym plain) h

new_plain : (target : Target) (r : Running) (given : Given) (command : Result Command ℕ) → IsPlain command → (made target r.state given command).0.messages ≢ r.state.messages → HasMadeNew target r given command
new_plain target r given command plain h = let P : Bool → Type 0 = λ b. HasMadeNewIf b target r given command in subst P (sym plain) h

-- ---- what the keeper holds

-- the group keeps another set, and the texts are those that were
pub moved : (target : Target) (entry before now : Contents) (r new : Running) → Holds target entry before r → HoldsSet (record entry { texts = before.texts }) now new.state.messages
    → new.synced ≡ r.synced → Holds target entry now new
moved target entry before now r new h k same =
    let texts : now.texts ≡ before.texts = k.others.texts in
    let P : FinMap text_cmp Text → Type 0 = λ x. HoldsSet (record entry { texts = x }) now new.state.messages in
    record {
      set = subst P (sym texts) k;
      texts = λ name other. ap (λ (m : FinMap text_cmp Text). get m name) texts ∙ h.texts name other;
      synced = ap (λ (m : FinMap text_cmp Text). get m (synced_name target)) texts ∙ h.synced ∙ sym same;
    }

pub set_as : (entry now : Contents) (ms ns : List Message) → ms ≡ ns → HoldsSet entry now ms → HoldsSet entry now ns
set_as entry now ms ns same h = let P : List Message → Type 0 = λ xs. HoldsSet entry now xs in subst P same h

module _ (target : Target) (reading : ℕ) (command : Result Command ℕ) (plain : IsPlain command) (old : State) (before : Contents) where
  abbrev messages_now : List Message
  messages_now = (obeyed old reading command).0.messages

  -- the messages before a line, and after it
  of_old : (r : Running) → r.state ≡ old → r.state.messages ≡ old.messages
  of_old r is = ap (λ (x : State). x.messages) is

  of_new : (r : Running) → r.state ≡ old → (done target r (alone_at reading) command).0.state.messages ≡ messages_now
  of_new r is =
      ap (λ (d : State × Reply). d.0.messages) (made_plain target r.state (alone_at reading) command plain)
      ∙ ap (λ (x : State). (obeyed x reading command).0.messages) is

  of_synced : (r : Running) → (done target r (alone_at reading) command).0.synced ≡ r.synced
  of_synced r = synced_plain target r.state (alone_at reading) command r.synced plain

  -- the set as the group keeps it before the line
  set_before : (entry : Contents) (r : Running) → r.state ≡ old → Holds target entry before r → HoldsSet (record entry { texts = before.texts }) before old.messages
  set_before entry r is h = set_as (record entry { texts = before.texts }) before _ _ (of_old r is) h.set

  holds_new : (entry now : Contents) (r : Running) → r.state ≡ old → Carries old.messages messages_now before now → Holds target entry before r → Holds target entry now (done target r (alone_at reading) command).0
  holds_new entry now r is carries h =
      moved target entry before now r (done target r (alone_at reading) command).0 h
      (set_as (record entry { texts = before.texts }) now _ _ (sym (of_new r is)) (carries (record entry { texts = before.texts }) (set_before entry r is h))) (of_synced r)

  either_left : (entry c : Contents) (r : Running) → r.state ≡ old → Holds target entry before r → HoldsEither (record entry { texts = before.texts }) c old.messages messages_now
      → HoldsSome target entry c (MayLeave target r (alone_at reading) command)
  either_left entry c r is h either = by either.which
    where
      by : (either.messages ≡ old.messages) ⊎ (either.messages ≡ messages_now) → HoldsSome target entry c (MayLeave target r (alone_at reading) command)
      by (inl same) = record {
        left = r;
        holds = moved target entry before c r r h (set_as (record entry { texts = before.texts }) c _ _ (same ∙ sym (of_old r is)) either.holds) refl;
        which = left_plain target r (alone_at reading) command r plain (inl refl);
      }
      by (inr same) = record {
        left = (done target r (alone_at reading) command).0;
        holds = moved target entry before c r (done target r (alone_at reading) command).0 h (set_as (record entry { texts = before.texts }) c _ _ (same ∙ sym (of_new r is)) either.holds) (of_synced r);
        which = left_plain target r (alone_at reading) command (done target r (alone_at reading) command).0 plain (inr refl);
      }

  some_left : (entry c : Contents) (r : Running) → r.state ≡ old → CarriesEither old.messages messages_now before c → Holds target entry before r
      → HoldsSome target entry c (MayLeave target r (alone_at reading) command)
  some_left entry c r is carries h = either_left entry c r is h (carries (record entry { texts = before.texts }) (set_before entry r is h))

  pub plain_answered : (new : State) (text : List ℕ) (refused : Bool) (exchanges : Option (List Exchange)) (faults : ℕ) (tells : Type 0) (now : Contents)
      → IsHandled (obeyed old reading command) new text refused → (tells → Carries old.messages messages_now before now)
      → IsAnswered target reading command old new text refused exchanges exchanges faults faults tells before now
  plain_answered new text refused exchanges faults tells now handled carries = record {
    given = alone_at reading;
    took = refl;
    handled = let P : State × Reply → Type 0 = λ d. IsHandled d new text refused in subst P (sym (made_plain target old (alone_at reading) command plain)) handled;
    talked = adds_none exchanges;
    whole = whole_plain target old (alone_at reading) command plain (silent reading);
    failed = ap (λ (b : Bool). count_after b faults) (sym (fails_plain old (alone_at reading) command plain));
    keeper = λ t entry r is h. (holds_new entry now r is (carries t) h, found_plain (alone_at reading) command r.synced plain);
  }

  pub plain_unanswered : (fault : PortFault) (exchanges : Option (List Exchange)) (faults : ℕ) (alone told tells : Type 0) (now : Contents) (left : Contents → Type 0)
      → (tells → now ≡ before) → (alone → (c : Contents) → left c → told × CarriesEither old.messages messages_now before c) → (fault ≡ Failed → messages_now ≢ old.messages)
      → IsUnanswered target fault reading command old exchanges exchanges faults faults alone told tells before now left
  plain_unanswered fault exchanges faults alone told tells now left same stops new = record {
    given = alone_at reading;
    took = refl;
    talked = adds_none exchanges;
    stayed = λ r is. (r, stayed_plain target r (alone_at reading) command r faults faults plain (record { silent = silent reading; same = refl; unfailed = refl }), λ t entry h. (let P : Contents → Type 0 = λ k. Holds target entry k r in subst P (sym (same t)) h, found_plain (alone_at reading) command r.synced plain));
    stops = λ a c h. let it = stops a c h in (it.0, λ entry r is held. some_left entry c r is it.1 held);
    new = λ failed r is. new_plain target r (alone_at reading) command plain (λ all. new failed (sym (of_new r is) ∙ all ∙ of_old r is));
  }

-- of any outcome

pub plain_oks : (target : Target) (reading : ℕ) (asks command : Result Command ℕ) → asks ≡ command → (plain : IsPlain command) (old : State) (before : Contents) (result : Result Answer PortFault) (new : State) (exchanges : Option (List Exchange)) (faults : ℕ) (tells : Type 0) (now : Contents)
    → IfOk result (λ a. IsHandled (obeyed old reading command) new a.text a.refused) → (tells → OnOk result (Carries old.messages (obeyed old reading command).0.messages before now))
    → IfOk result (λ a. IsAnswered target reading asks old new a.text a.refused exchanges exchanges faults faults tells before now)
plain_oks target reading asks command is plain old before (Ok a) new exchanges faults tells now handled carries =
    let P : Result Command ℕ → Type 0 = λ c. IsAnswered target reading c old new a.text a.refused exchanges exchanges faults faults tells before now in
    subst P (sym is) (plain_answered target reading command plain old before new a.text a.refused exchanges faults tells now handled carries)
plain_oks target reading asks command is plain old before (Err fault) new exchanges faults tells now handled carries = tt

pub plain_errs : (target : Target) (reading : ℕ) (asks command : Result Command ℕ) → asks ≡ command → (plain : IsPlain command) (old : State) (before : Contents) (result : Result Answer PortFault) (exchanges : Option (List Exchange)) (faults : ℕ) (alone told tells : Type 0) (now : Contents) (left : Contents → Type 0)
    → (tells → OnErr result (now ≡ before)) → OnErr result (alone → (c : Contents) → left c → told × CarriesEither old.messages (obeyed old reading command).0.messages before c)
    → (IsErrOf result Failed → (obeyed old reading command).0.messages ≢ old.messages)
    → IfErr result (λ fault. IsUnanswered target fault reading asks old exchanges exchanges faults faults alone told tells before now left)
plain_errs target reading asks command is plain old before (Ok a) exchanges faults alone told tells now left same stops new = tt
plain_errs target reading asks command is plain old before (Err fault) exchanges faults alone told tells now left same stops new =
    let P : Result Command ℕ → Type 0 = λ c. IsUnanswered target fault reading c old exchanges exchanges faults faults alone told tells before now left in
    subst P (sym is) (plain_unanswered target reading command plain old before fault exchanges faults alone told tells now left same stops (λ failed. new (ap Err failed)))
