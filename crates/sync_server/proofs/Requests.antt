-- What a request does to what is kept, step by step.
use Rattle.std.proofs.Common.{◌≡◌, ◌≢◌, ◌⊎◌, ◌∙◌, ℕ, List, [], true, Option, None, Some, Result, Ok, Err, inl, inr, refl, sym, ap, ap₂, subst}
use Rattle.std.specs.FinMap as finite
use Rattle.std.specs.Str.{bytes_eq}
use Rattle.std.proofs.lemmas.Slice.Eq.{bytes_eq-Decides}
use Rattle.budget_ports.specs.Contents.{Contents, Text, records_after, appended}
use Rattle.budget_ports.specs.Keeper.{IsKnown, IsAlone, Commits}
use Rattle.budget_ports.specs.declared.keeper.Record.{Record}
use Rattle.field_merge.specs.declared.message.Message.{Message}
use Rattle.field_merge.specs.Messages.{AreMessages}
use Rattle.field_merge.specs.Log.{join}
use Rattle.kept_messages.specs.Records.{kept_set}
use Rattle.kept_messages.specs.Holding.{Holds}
use Rattle.kept_messages.proofs.KeptSets.{batches_kept}
use Rattle.sync_wire.specs.declared.request.SyncRequest.{SyncRequest}
use Rattle.sync_server.specs.declared.refusal.Refusal.{Refusal}
use Rattle.sync_server.specs.declared.refusal.Refusal.TheVariants.{BadRecord}
use Rattle.sync_server.specs.declared.state.ServerState.{ServerState}
use Rattle.sync_server.specs.Serving.{Found, found_in, file_name, Accepts, Refuses, judge_found, judge_set, kept_after, batch_of, reply_of, IsMeant}
use Rattle.sync_server.specs.State.{read_of, Agrees}
use Rattle.sync_server.specs.Keeping.{OnlyReads, IsFree, Puts, Learns, HasKept}
use Rattle.sync_server.proofs.Sets.{same_or}
use Rattle.sync_server.proofs.Elsewhere.{elsewhere}

itself : (b : List ℕ) → bytes_eq b b ≡ true
itself b = (bytes_eq-Decides b b).1 refl

-- the file has the group, so the set decides
pub by_set : (q : SyncRequest) (set : Result (List Message) ℕ) → judge_found q (Some q.group) set ≡ judge_set q set
by_set q set = rw (itself q.group) refl

pub set_is : (q : SyncRequest) (set : Result (List Message) ℕ) (ms : List Message) → set ≡ Ok ms → judge_found q (Some q.group) set ≡ Accepts ms q
set_is q set ms e = by_set q set ∙ ap (judge_set q) e

pub set_bad : (q : SyncRequest) (set : Result (List Message) ℕ) (index : ℕ) → set ≡ Err index → judge_found q (Some q.group) set ≡ Refuses BadRecord
set_bad q set index e = by_set q set ∙ ap (judge_set q) e

abbrev pub found_with : Option Text → Result (List Message) ℕ → Found
found_with group set = record { group = group; set = set }

pub finds : (k : Contents) (q : SyncRequest) (group : Option Text) (set : Result (List Message) ℕ) → group ≡ finite.get k.texts (file_name q.file) → set ≡ kept_set (records_after k q.group []) → found_with group set ≡ found_in k q
finds k q group set eg es = ap₂ found_with eg es

-- one read after the other
pub reads_then : (t0 t1 t2 : Type 0) (k0 k1 k2 : Contents) (l0 l1 l2 : Contents → Type 0) → OnlyReads t0 t1 k0 k1 l0 l1 → OnlyReads t1 t2 k1 k2 l1 l2 → OnlyReads t0 t2 k0 k2 l0 l2
reads_then t0 t1 t2 k0 k1 k2 l0 l1 l2 a b = record {
  told = λ t. a.told (b.told t);
  same = λ t. b.same t ∙ a.same (b.told t);
  stops = λ k h. a.stops k (b.stops k h);
}

-- a group that keeps a message set keeps its join with the messages of a request, once the records of the new ones are added
pub grows : (k : Contents) (q : SyncRequest) (ms : List Message) → AreMessages q.messages → kept_set (records_after k q.group []) ≡ Ok ms
    → kept_set (records_after (appended k q.group (batch_of ms q)) q.group []) ≡ Ok (join ms q.messages)
grows k q ms valid e =
    let h : Holds q.group k k ms = record {
      messages = e;
      kept = λ key body is. is;
      written = λ key body none is. absurd (lacks body (sym none ∙ is));
      others = record { records = λ place n. refl; texts = refl };
    } in (batches_kept q.group k k ms q.messages valid h).messages
  where
    lacks : (body : Text) → None ≡ Some body → ⊥
    lacks body e = cc

-- so a state that keeps the join agrees with the keeper then
pub agrees_then : (old new : ServerState) (k : Contents) (q : SyncRequest) (ms : List Message) → AreMessages q.messages → kept_set (records_after k q.group []) ≡ Ok ms
    → Agrees old k → Puts old new q.group (Some (Ok (join ms q.messages))) → Agrees new (appended k q.group (batch_of ms q))
agrees_then old new k q ms valid e a p g set is = by (same_or q.group g)
  where
    by : (g ≡ q.group) ⊎ (g ≢ q.group) → kept_set (records_after (appended k q.group (batch_of ms q)) g []) ≡ set
    by (inl s) = subst (λ (h : Text). kept_set (records_after (appended k q.group (batch_of ms q)) h []) ≡ set) (sym s)
        (grows k q ms valid e ∙ some_is (sym p.here ∙ ap (read_of new) (sym s) ∙ is))
      where
        some_is : {x y : Result (List Message) ℕ} → Some x ≡ Some y → x ≡ y
        some_is f = cc
    by (inr n) = ap kept_set (elsewhere k q.group g (batch_of ms q) n) ∙ a g set (sym (p.others g n) ∙ is)

module _ (q : SyncRequest) (r : Refusal) (s0 : ServerState) (t0 t1 : Type 0) (k0 k1 : Contents) (l0 l1 : Contents → Type 0) (group : Option Text)
    (fg : t1 → group ≡ finite.get k0.texts (file_name q.file)) (reads : OnlyReads t0 t1 k0 k1 l0 l1) where
  set0 : Result (List Message) ℕ
  set0 = kept_set (records_after k0 q.group [])

  -- it is refused for its group
  pub refused_first : ((set : Result (List Message) ℕ) → judge_found q group set ≡ Refuses r) ⊎ IsFree r → (found : Found) × HasKept q found s0 s0 t0 t1 k0 k1 l0 l1 (Err r)
  unfolding set0
  refused_first j = (
    found_with group set0,
    record {
      told = reads.told;
      finds = λ t. finds k0 q group set0 (fg t) refl;
      by_result = record { why = by j; token = refl; same = reads.same };
      stops = λ k h. inl (reads.stops k h);
    },
  )
    where
      by : ((set : Result (List Message) ℕ) → judge_found q group set ≡ Refuses r) ⊎ IsFree r → (judge_found q group set0 ≡ Refuses r) ⊎ IsFree r
      by (inl h) = inl (h set0)
      by (inr h) = inr h

  -- the group is read
  module _ (t2 : Type 0) (k2 : Contents) (l2 : Contents → Type 0) (g : group ≡ Some q.group) (set : Result (List Message) ℕ) (reads_on : OnlyReads t1 t2 k1 k2 l1 l2)
      (fs : t2 → set ≡ kept_set (records_after k1 q.group [])) where
    both : OnlyReads t0 t2 k0 k2 l0 l2
    both = reads_then t0 t1 t2 k0 k1 k2 l0 l1 l2 reads reads_on

    found_here : t2 → found_with (Some q.group) set ≡ found_in k0 q
    found_here t = let before = reads_on.told t in
        finds k0 q (Some q.group) set (sym g ∙ fg before) (fs t ∙ ap (λ (k : Contents). kept_set (records_after k q.group [])) (reads.same before))

    pub refused_next : (s2 : ServerState) → (((index : ℕ) × (set ≡ Err index) × (r ≡ BadRecord)) ⊎ IsFree r) × Learns s0 s2 q.group set → (found : Found) × HasKept q found s0 s2 t0 t2 k0 k2 l0 l2 (Err r)
    refused_next s2 j = (
      found_with (Some q.group) set,
      record {
        told = both.told;
        finds = found_here;
        by_result = record { why = by j.0; token = j.1.0; same = both.same };
        stops = λ k h. inl (both.stops k h);
      },
    )
      where
        by : ((index : ℕ) × (set ≡ Err index) × (r ≡ BadRecord)) ⊎ IsFree r → (judge_found q (Some q.group) set ≡ Refuses r) ⊎ IsFree r
        by (inl h) = inl (set_bad q set h.0 h.1 ∙ ap Refuses (sym h.2))
        by (inr h) = inr h

    -- and the new messages are appended
    module _ (ms : List Message) (is : set ≡ Ok ms) (s2 s3 : ServerState) (batch : List Record) (same_batch : batch ≡ batch_of ms q) (t3 : Type 0) (k3 : Contents) (l3 : Contents → Type 0)
        (told_on : t3 → t2) (commits : Commits t2 l2 l3 (appended k2 q.group batch)) where
      pub read_set : t2 → kept_set (records_after k0 q.group []) ≡ Ok ms
      read_set t = let before = reads_on.told t in sym (fs t ∙ ap (λ (k : Contents). kept_set (records_after k q.group [])) (reads.same before)) ∙ is

      pub added : t2 → appended k2 q.group batch ≡ kept_after (Accepts ms q) k0
      added t = ap₂ (λ (k : Contents) (rs : List Record). appended k q.group rs) (both.same t) same_batch

      left_by : (k : Contents) → l3 k → l0 k ⊎ (t0 × (ns : List Message) × (judge_found q (found_in k0 q).group (found_in k0 q).set ≡ Accepts ns q) × (k ≡ kept_after (Accepts ns q) k0))
      left_by k h = by (commits k h)
        where
          by : l2 k ⊎ (t2 × (k ≡ appended k2 q.group batch)) → l0 k ⊎ (t0 × (ns : List Message) × (judge_found q (found_in k0 q).group (found_in k0 q).set ≡ Accepts ns q) × (k ≡ kept_after (Accepts ns q) k0))
          by (inl x) = inl (both.stops k x)
          by (inr x) = inr (both.told x.0, ms, ap (λ (f : Found). judge_found q f.group f.set) (sym (found_here x.0)) ∙ set_is q set ms is, x.1 ∙ added x.0)

      pub refused_last : IsFree r → (t3 → k3 ≡ k2) → s3.token ≡ s0.token → (found : Found) × HasKept q found s0 s3 t0 t3 k0 k3 l0 l3 (Err r)
      refused_last free same token = (
        found_with (Some q.group) set,
        record {
          told = λ t. both.told (told_on t);
          finds = λ t. found_here (told_on t);
          by_result = record { why = inr free; token = token; same = λ t. same t ∙ both.same (told_on t) };
          stops = left_by;
        },
      )

      pub accepted_all : (reply : List ℕ) → reply ≡ reply_of (Accepts ms q) → IsMeant (Accepts ms q) → Puts s0 s3 q.group (Some (Ok (join ms q.messages))) → (t3 → k3 ≡ appended k2 q.group batch) → IsKnown t3 l3 → (batch ≢ [] → IsAlone t3 k3 l3)
          → (found : Found) × HasKept q found s0 s3 t0 t3 k0 k3 l0 l3 (Ok reply)
      accepted_all reply er meant puts keeps known alone = (
        found_with (Some q.group) set,
        record {
          told = λ t. both.told (told_on t);
          finds = λ t. found_here (told_on t);
          by_result = (
            ms,
            record {
              judged = set_is q set ms is;
              reply_is = er;
              means = meant;
              state = puts;
              keeps = λ t. keeps t ∙ added (told_on t);
              known = known;
              alone = λ some. alone (λ none. some (sym same_batch ∙ none));
            },
          );
          stops = left_by;
        },
      )
