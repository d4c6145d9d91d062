-- What becomes of a connection.
use Rattle.std.proofs.Common.{◌≡◌, ◌⊎◌, ◌∙◌, ◌<◌, ◌==◌, ℕ, List, [], ◌∷◌, ◌++◌, length, Bool, true, false, Option, None, Some, Result, Ok, Err, inl, inr, refl, sym, ap, ap₂, subst, take, cond, arith, eqb-true}
use Rattle.budget_ports.specs.Contents.{Contents, Text}
use Rattle.budget_ports.specs.Connections.{Stays, LetsIn, Opens, Begins}
use Rattle.budget_ports.specs.Faults.{count_after}
use Rattle.field_merge.specs.declared.message.Message.{Message}
use Rattle.field_merge.specs.Log.{join}
use Rattle.sync_wire.specs.declared.request.SyncRequest.{SyncRequest}
use Rattle.sync_server.specs.declared.refusal.Refusal.{Refusal}
use Rattle.sync_server.specs.declared.refusal.Refusal.TheVariants.{NoMemory, FileHasReset}
use Rattle.sync_server.specs.declared.state.ServerState.{ServerState}
use Rattle.sync_server.specs.declared.served.Served.{Served}
use Rattle.sync_server.specs.declared.served.Served.TheVariants as served
use Rattle.sync_server.specs.Serving.{Found, found_in, Verdict, Accepts, Refuses, Ends, judge_found, judge_set, judge_request, Decides, DecidesRest, DecidesBody, by_head, too_large, no_head, bytes_end, refused, short, whole, no_request, request, AsksKeeper, Means, decided, keeper_fault, no_memory, reply_of, HasStatus, Visit, IsServed, IsMeant, answered, ended, unread, unwritten, kept_after, batch_of}
use Rattle.sync_server.specs.State.{read_of, Remembers}
use Rattle.std.specs.Str.{bytes_eq}
use Rattle.sync_server.specs.Heads.{judge_head, IsUndecided}
use Rattle.sync_server.specs.Keeping.{Puts, IsFree, is_fault, HasKept}
use Rattle.sync_server.specs.Outside.{HasFound, HasServed, Gains, IsAll, IsNext, IsSent, is_cut, ServesOpen, UsesKeeper}
use Rattle.sync_server.specs.Written.{WritesTo}
use Rattle.sync_server.proofs.Pieces.{stays_to}
use Rattle.sync_server.specs.Replies.{refusal_bytes, status_of}

some_length : (xs : List ℕ) → 0 < length xs → (length xs == 0) ≡ false
some_length xs less = elim (length xs == 0) as (λ b. (length xs == 0) ≡ b → b ≡ false) [ true ↦ λ e. absurd (let z : length xs ≡ 0 = eqb-true (length xs) 0 e in omega (arith, z, less)) | false ↦ λ e. refl ] refl

-- a request that nothing refuses before is judged by what is found
pub by_found : (token came : List ℕ) (asks : AsksKeeper token came) (found : Found) → judge_request asks.request found ≡ judge_found asks.request found.group found.set
by_found token came asks found = rw (asks.plain, some_length asks.request.since asks.since) refl

pub asks_decide : (token came : List ℕ) (Finds : SyncRequest → Found → Type 0) (asks : AsksKeeper token came) (found : Found) (v : Verdict) → Finds asks.request found
    → judge_found asks.request found.group found.set ≡ v → Decides token Finds came v
asks_decide token came Finds asks found v f j =
    by_head asks.head asks.more asks.rest asks.in_front asks.has (whole asks.n asks.takes asks.whole (request asks.request found asks.means f (sym j ∙ sym (by_found token came asks found))))

ms_of : Verdict → List Message
ms_of Ends = []
ms_of (Refuses r) = []
ms_of (Accepts ms q) = ms

q_of : SyncRequest → Verdict → SyncRequest
q_of d Ends = d
q_of d (Refuses r) = d
q_of d (Accepts ms q) = q

-- an accepted request is one
pub accepted_is : (ms ns : List Message) (q p : SyncRequest) → Accepts ms q ≡ Accepts ns p → (ms ≡ ns) × (q ≡ p)
unfolding ms_of q_of
accepted_is ms ns q p e = (ap ms_of e, ap (q_of q) e)

pub remembers : (s0 s1 : ServerState) (ms : List Message) (q : SyncRequest) → Puts s0 s1 q.group (Some (Ok (join ms q.messages))) → Remembers s0 s1 (Accepts ms q)
remembers s0 s1 ms q p = record {
  token = p.token;
  group = λ ns r e. (let same = accepted_is ms ns q r e in subst (λ (x : SyncRequest). read_of s1 x.group ≡ Some (Ok (join ns x.messages))) same.1 (subst (λ (y : List Message). read_of s1 q.group ≡ Some (Ok (join y q.messages))) same.0 p.here));
  others = λ ns r g e n. (let same = accepted_is ms ns q r e in p.others g (λ f. n (f ∙ ap (λ (x : SyncRequest). x.group) same.1)));
}

pub remembers_token : (s0 s1 : ServerState) (r : Refusal) → s1.token ≡ s0.token → Remembers s0 s1 (Refuses r)
remembers_token s0 s1 r e = record { token = e; group = λ ns q f. absurd (no ns q f); others = λ ns q g f n. absurd (no ns q f) }
  where
    no : (ns : List Message) (q : SyncRequest) → Refuses r ≡ Accepts ns q → ⊥
    no ns q f = cc

module _ (token : Text) (tells new_tells : Type 0) (old new : Contents) (left new_left : Contents → Type 0) (faults new_faults : ℕ) (s0 s1 : ServerState) (came : List ℕ) where
  abbrev visit : Verdict → Bool → List ℕ → Bool → Visit
  visit v failed wrote cut = record { came = came; wrote = wrote; verdict = v; keeper_failed = failed; door_failed = cut; close_failed = false }

  pub replied : (bytes : Option (List ℕ)) (outs new_outs : Option (List (List ℕ))) (df ndf : ℕ) (v : Verdict) (failed : Bool) (text : List ℕ) (status : ℕ) (result : Served) → IsAll bytes came
      → Means token (λ q found. new_tells → HasFound old q found) came failed v → HasStatus v status → IsMeant v → reply_of v ≡ text → IsSent text status outs new_outs result → ndf ≡ count_after (is_cut result) df → Remembers s0 s1 v
      → ((wrote : List ℕ) (cut : Bool) → UsesKeeper token tells new_tells old new left new_left faults new_faults (visit v failed wrote cut))
      → (x : Visit) × Remembers s0 s1 x.verdict × ServesOpen token x result bytes outs new_outs df ndf tells new_tells old new left new_left faults new_faults
  replied bytes outs new_outs df ndf v failed text status (served.Answered st) all m h meant e s n r k =
      (visit v failed text false, r, record { open_still = refl; came = all; wrote = s.1; count = n; served = answered st m (subst (HasStatus v) (sym s.0) h) (sym e) refl; means = meant; keeper = k text false })
  replied bytes outs new_outs df ndf v failed text status served.Cut all m h meant e s n r k =
      (visit v failed s.front true, r, record { open_still = refl; came = all; wrote = s.wrote; count = n; served = unwritten m s.rest (e ∙ s.of) s.some refl; means = meant; keeper = k s.front true })

  -- a request that is refused before the keeper is asked, or for want of memory
  pub untouched : (v : Verdict) → kept_after v old ≡ old → ((ms : List Message) (q : SyncRequest) → v ≡ Accepts ms q → ⊥) → (new_tells → tells) → (new_tells → new ≡ old)
      → ((k : Contents) → new_left k → left k) → new_faults ≡ faults → (wrote : List ℕ) (cut : Bool) → UsesKeeper token tells new_tells old new left new_left faults new_faults (visit v false wrote cut)
  untouched v none other told keeps stops count wrote cut = record {
    told = told;
    keeps = λ t. keeps t ∙ sym none;
    stops = λ k h. inl (stops k h);
    known = λ ms q e. absurd (other ms q e);
    alone = λ ms q e. absurd (other ms q e);
    count = count;
  }

-- what decides over one finding decides over a wider one
module _ (token came : List ℕ) (F G : SyncRequest → Found → Type 0) (wider : (q : SyncRequest) (f : Found) → F q f → G q f) (v : Verdict) where
  wider_body : (body : List ℕ) → DecidesBody F body v → DecidesBody G body v
  wider_body body (no_request f b e) = no_request f b e
  wider_body body (request q f b h e) = request q f b (wider q f h) e

  wider_rest : (rest : List ℕ) (n : Result ℕ Refusal) → DecidesRest F rest n v → DecidesRest G rest n v
  wider_rest rest n (refused r e f) = refused r e f
  wider_rest rest n (short k e l f) = short k e l f
  wider_rest rest n (whole k e l d) = whole k e l (wider_body (take k rest) d)

  pub widened : Decides token F came v → Decides token G came v
  widened (by_head h m r a b d) = by_head h m r a b (wider_rest r (judge_head token h) d)
  widened (too_large a b e) = too_large a b e
  widened (no_head a e) = no_head a e
  widened (bytes_end a b e) = bytes_end a b e

-- and so does what becomes of a connection
module _ (token : List ℕ) (F G : SyncRequest → Found → Type 0) (wider : (q : SyncRequest) (f : Found) → F q f → G q f) where
  wider_meant : (came : List ℕ) (failed : Bool) (v : Verdict) → Means token F came failed v → Means token G came failed v
  wider_meant came failed v (decided e d) = decided e (widened token came F G wider v d)
  wider_meant came failed v (keeper_fault e a f) = keeper_fault e a f
  wider_meant came failed v (no_memory e f) = no_memory e f

  wider_served : (v : Visit) (result : Served) → IsServed token F v result → IsServed token G v result
  wider_served v result (answered st m h w d) = answered st (wider_meant v.came v.keeper_failed v.verdict m) h w d
  wider_served v result (ended e d w k f) = ended e (widened token v.came F G wider Ends d) w k f
  wider_served v result (unread e f b c u w k d) = unread e f b c u w k d
  wider_served v result (unwritten m r e n d) = unwritten (wider_meant v.came v.keeper_failed v.verdict m) r e n d

fault_in : Verdict → Bool
fault_in Ends = false
fault_in (Refuses r) = is_fault r
fault_in (Accepts ms q) = false

-- what is found is no fault of the keeper
pub found_sound : (q : SyncRequest) (group : Option Text) (set : Result (List Message) ℕ) (r : Refusal) → judge_found q group set ≡ Refuses r → is_fault r ≡ false
unfolding fault_in
found_sound q group set r e = sym (ap fault_in e) ∙ by group
  where
    by_set : (set : Result (List Message) ℕ) → fault_in (judge_set q set) ≡ false
    by_set (Ok ms) = refl
    by_set (Err i) = refl

    by : (group : Option Text) → fault_in (judge_found q group set) ≡ false
    by None = refl
    by (Some g) = elim (bytes_eq g q.group) as (λ b. fault_in (cond b (judge_set q set) (Refuses FileHasReset)) ≡ false) [ true ↦ by_set set | false ↦ refl ]

-- what the server means where a request is refused once the keeper was asked
pub means_refused : (token came : List ℕ) (Finds : SyncRequest → Found → Type 0) (asks : AsksKeeper token came) (found : Found) (r : Refusal) → Finds asks.request found
    → (judge_found asks.request found.group found.set ≡ Refuses r) ⊎ IsFree r → Means token Finds came (is_fault r) (Refuses r)
means_refused token came Finds asks found r f (inl j) = decided (found_sound asks.request found.group found.set r j) (asks_decide token came Finds asks found (Refuses r) f j)
means_refused token came Finds asks found r f (inr (inl e)) = keeper_fault (ap is_fault e) asks (ap Refuses e)
means_refused token came Finds asks found r f (inr (inr e)) = no_memory (ap is_fault e) (ap Refuses e)

module _ (token : Text) (tells new_tells : Type 0) (old new : Contents) (left new_left : Contents → Type 0) (faults new_faults : ℕ) (s0 s1 : ServerState) (came : List ℕ)
    (bytes : Option (List ℕ)) (outs new_outs : Option (List (List ℕ))) (df ndf : ℕ) (result : Served) (all : IsAll bytes came) (count : ndf ≡ count_after (is_cut result) df) where
  abbrev Final : Type 0
  Final = (x : Visit) × Remembers s0 s1 x.verdict × ServesOpen token x result bytes outs new_outs df ndf tells new_tells old new left new_left faults new_faults

  abbrev Left : List ℕ → SyncRequest → Type 0
  Left c q = (k : Contents) → new_left k → left k ⊎ (tells × (ms : List Message) × (judge_found q (found_in old q).group (found_in old q).set ≡ Accepts ms q) × (k ≡ kept_after (Accepts ms q) old))

  left_by : (asks : AsksKeeper token came) → Left came asks.request → (k : Contents) → new_left k → left k ⊎ (tells × (v : Verdict) × Decides token (HasFound old) came v × (k ≡ kept_after v old))
  left_by asks l k h = by (l k h)
    where
      by : left k ⊎ (tells × (ms : List Message) × (judge_found asks.request (found_in old asks.request).group (found_in old asks.request).set ≡ Accepts ms asks.request) × (k ≡ kept_after (Accepts ms asks.request) old))
          → left k ⊎ (tells × (v : Verdict) × Decides token (HasFound old) came v × (k ≡ kept_after v old))
      by (inl x) = inl x
      by (inr x) = inr (x.0, Accepts x.1 asks.request, asks_decide token came (HasFound old) asks (found_in old asks.request) (Accepts x.1 asks.request) refl x.2, x.3)

  pub accepted_visit : (asks : AsksKeeper token came) (found : Found) (reply : List ℕ) → HasKept asks.request found s0 s1 tells new_tells old new left new_left (Ok reply) → new_faults ≡ faults → IsSent reply 200 outs new_outs result → Final
  accepted_visit asks found reply k still sent =
      let ms = k.by_result.0 in
      let h = k.by_result.1 in
      replied token tells new_tells old new left new_left faults new_faults s0 s1 came bytes outs new_outs df ndf (Accepts ms asks.request) false reply 200 result all
      (decided refl (asks_decide token came (λ q found. new_tells → HasFound old q found) asks found (Accepts ms asks.request) k.finds h.judged)) refl h.means (sym h.reply_is) sent count
      (remembers s0 s1 ms asks.request h.state) (λ wrote cut. record {
        told = k.told;
        keeps = h.keeps;
        stops = left_by asks k.stops;
        known = λ ns r e. h.known;
        alone = λ ns r e some. (let same = accepted_is ms ns asks.request r e in h.alone (λ none. some (sym (ap₂ batch_of same.0 same.1) ∙ none)));
        count = still;
      })

  pub refused_visit : (asks : AsksKeeper token came) (found : Found) (r : Refusal) → HasKept asks.request found s0 s1 tells new_tells old new left new_left (Err r) → new_faults ≡ count_after (is_fault r) faults
      → IsSent (refusal_bytes r) (status_of r) outs new_outs result → Final
  refused_visit asks found r k rose sent =
      let h = k.by_result in
      replied token tells new_tells old new left new_left faults new_faults s0 s1 came bytes outs new_outs df ndf (Refuses r) (is_fault r) (refusal_bytes r) (status_of r) result all
      (means_refused token came (λ q found. new_tells → HasFound old q found) asks found r k.finds h.why) refl tt refl sent count
      (remembers_token s0 s1 r h.token) (λ wrote cut. record {
        told = k.told;
        keeps = h.same;
        stops = left_by asks k.stops;
        known = λ ns q e. absurd (no ns q e);
        alone = λ ns q e. absurd (no ns q e);
        count = rose;
      })
    where
      no : (ns : List Message) (q : SyncRequest) → Refuses r ≡ Accepts ns q → ⊥
      no ns q f = cc

-- ---- nothing is asked of the keeper

remembers_end : (s : ServerState) → Remembers s s Ends
remembers_end s = record { token = refl; group = λ ns q f. absurd (no ns q f); others = λ ns q g f n. absurd (no ns q f) }
  where
    no : (ns : List Message) (q : SyncRequest) → Ends ≡ Accepts ns q → ⊥
    no ns q f = cc

module _ (token : Text) (tells : Type 0) (old : Contents) (left : Contents → Type 0) (faults : ℕ) (s : ServerState) (came : List ℕ)
    (bytes : Option (List ℕ)) (outs new_outs : Option (List (List ℕ))) (df ndf : ℕ) (all : IsAll bytes came) where
  abbrev Alone : Served → Type 0
  Alone result = (x : Visit) × Remembers s s x.verdict × ServesOpen token x result bytes outs new_outs df ndf tells tells old old left left faults faults

  abbrev Told : SyncRequest → Found → Type 0
  Told q found = tells → HasFound old q found

  told_of : (v : Verdict) → ((k : Contents) → Decides token (HasFound k) came v) → Decides token Told came v
  told_of v d = widened token came (HasFound old) Told (λ q f h _. h) v (d old)

  -- what is refused is so whatever the keeper has, or memory ran out
  pub early_visit : (result : Served) → ndf ≡ count_after (is_cut result) df → (r : Refusal) → ((k : Contents) → Decides token (HasFound k) came (Refuses r)) ⊎ (r ≡ NoMemory)
      → IsSent (refusal_bytes r) (status_of r) outs new_outs result → Alone result
  early_visit result count r why sent =
      replied token tells tells old old left left faults faults s s came bytes outs new_outs df ndf (Refuses r) false (refusal_bytes r) (status_of r) result all (means why) refl tt refl sent count
      (remembers_token s s r refl) (untouched token tells tells old old left left faults faults s s came (Refuses r) refl no (λ t. t) (λ t. refl) (λ k h. h) refl)
    where
      means : ((k : Contents) → Decides token (HasFound k) came (Refuses r)) ⊎ (r ≡ NoMemory) → Means token Told came false (Refuses r)
      means (inl d) = decided refl (told_of (Refuses r) d)
      means (inr e) = no_memory refl (ap Refuses e)

      no : (ns : List Message) (q : SyncRequest) → Refuses r ≡ Accepts ns q → ⊥
      no ns q f = cc

  ends_no : (ns : List Message) (q : SyncRequest) → Ends ≡ Accepts ns q → ⊥
  ends_no ns q f = cc

  -- the bytes ended
  pub ended_visit : ndf ≡ df → ((k : Contents) → Decides token (HasFound k) came Ends) → Stays outs new_outs → Alone served.Cut
  ended_visit count d stays = (
    record { came = came; wrote = []; verdict = Ends; keeper_failed = false; door_failed = false; close_failed = false },
    remembers_end s,
    record {
      open_still = refl;
      came = all;
      wrote = stays_to outs new_outs stays;
      count = count;
      served = ended refl (told_of Ends d) refl refl refl;
      means = tt;
      keeper = untouched token tells tells old old left left faults faults s s came Ends refl ends_no (λ t. t) (λ t. refl) (λ k h. h) refl [] false;
    },
  )

  -- a read failed
  pub unread_visit : ndf ≡ count_after true df → (front back : List ℕ) → came ≡ front ++ back → IsUndecided token front → Stays outs new_outs → Alone served.Cut
  unread_visit count front back e un stays = (
    record { came = came; wrote = []; verdict = Ends; keeper_failed = false; door_failed = true; close_failed = false },
    remembers_end s,
    record {
      open_still = refl;
      came = all;
      wrote = stays_to outs new_outs stays;
      count = count;
      served = unread refl front back e un refl refl refl;
      means = tt;
      keeper = untouched token tells tells old old left left faults faults s s came Ends refl ends_no (λ t. t) (λ t. refl) (λ k h. h) refl [] true;
    },
  )

-- ---- the connection is let in before, and closed then

lets_on : (a b c : Option (List (List ℕ))) → LetsIn a b → Stays b c → LetsIn a c
lets_on None b c l s = tt
lets_on (Some x) None c l s = absurd l
lets_on (Some x) (Some y) None l s = absurd s
lets_on (Some x) (Some y) (Some z) l s = s ∙ l

is_next : (waited : Option (List (List ℕ))) (left : Option (List ℕ)) (came : List ℕ) → Opens waited left → IsAll left came → IsNext waited came
is_next None left came o a = tt
is_next (Some w) None came o a = cc
is_next (Some w) (Some l) came o a = a ∙ cc

some_same : (x y : List (List ℕ)) → Some x ≡ Some y → x ≡ y
some_same x y e = cc

gains : (a b c d : Option (List (List ℕ))) (wrote : List ℕ) → Begins a b → WritesTo b c wrote → Stays c d → Gains a d wrote
gains None b c d wrote g w s = tt
gains (Some x) None c d wrote g w s = absurd g
gains (Some x) (Some y) c d wrote g w s = by c d (w x [] (ap Some g)) s
  where
    by : (c d : Option (List (List ℕ))) → c ≡ Some (x ++ wrote ∷ []) → Stays c d → Gains (Some x) d wrote
    by None d e t = cc
    by (Some z) None e t = absurd t
    by (Some z) (Some u) e t = t ∙ some_same z (x ++ wrote ∷ []) e

abbrev closed : Visit → Bool → Visit
closed v failed = record { came = v.came; wrote = v.wrote; verdict = v.verdict; keeper_failed = v.keeper_failed; door_failed = v.door_failed; close_failed = failed }

closed_served : (token : Text) (Finds : SyncRequest → Found → Type 0) (v : Visit) (failed : Bool) (result : Served) → IsServed token Finds v result → IsServed token Finds (closed v failed) result
closed_served token Finds v failed result (answered st m h w d) = answered st m h w d
closed_served token Finds v failed result (ended e c w k d) = ended e c w k d
closed_served token Finds v failed result (unread e f b c u w k d) = unread e f b c u w k d
closed_served token Finds v failed result (unwritten m r e n d) = unwritten m r e n d

module _ (token : Text) (tells new_tells : Type 0) (old new : Contents) (left new_left : Contents → Type 0) (faults new_faults : ℕ) (s0 s1 : ServerState) (result : Served) where
  closed_keeper : (v : Visit) (failed : Bool) → UsesKeeper token tells new_tells old new left new_left faults new_faults v
      → UsesKeeper token tells new_tells old new left new_left faults new_faults (closed v failed)
  closed_keeper v failed u = record { told = u.told; keeps = u.keeps; stops = u.stops; known = u.known; alone = u.alone; count = u.count }

  pub closed_visit : (bytes : Option (List ℕ)) (w0 w1 w2 w3 o0 o1 o2 o3 : Option (List (List ℕ))) (f0 f1 f2 f3 : ℕ) (failed : Bool)
      → LetsIn w0 w1 → Stays w1 w2 → Stays w2 w3 → Opens w0 bytes → Begins o0 o1 → Stays o2 o3 → f1 ≡ f0 → f3 ≡ count_after failed f2
      → ((x : Visit) × Remembers s0 s1 x.verdict × ServesOpen token x result bytes o1 o2 f1 f2 tells new_tells old new left new_left faults new_faults)
      → (x : Visit) × Remembers s0 s1 x.verdict × HasServed token x result w0 w3 o0 o3 f0 f3 tells new_tells old new left new_left faults new_faults
  closed_visit bytes w0 w1 w2 w3 o0 o1 o2 o3 f0 f1 f2 f3 failed lets st12 st23 opens begins st c1 c3 inner =
      let v = inner.0 in
      let h = inner.2 in (
        closed v failed,
        inner.1,
        record {
          served = closed_served token (λ q found. new_tells → HasFound old q found) v failed result h.served;
          found = λ t. closed_served token (HasFound old) v failed result (wider_served token (λ q found. new_tells → HasFound old q found) (HasFound old) (λ q found f. f t) v result h.served);
          means = h.means;
          door = record {
            lets_in = lets_on w0 w2 w3 (lets_on w0 w1 w2 lets st12) st23;
            came = is_next w0 bytes v.came opens h.came;
            wrote = gains o0 o1 o2 o3 v.wrote begins h.wrote st;
            count = c3 ∙ ap (count_after failed) (h.count ∙ ap (count_after v.door_failed) c1);
          };
          keeper = closed_keeper v failed h.keeper;
        },
      )
