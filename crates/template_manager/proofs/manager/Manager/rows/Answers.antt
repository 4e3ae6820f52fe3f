use Rattle.std.proofs.Common.{◌≡◌, ℕ, refl, subst, ◌∙◌}
use Rattle.std.specs.Prelude.{map, IfOk}
use Rattle.col_base.specs.declared.base.Transport.{Transport}
use Rattle.template_snapshot.specs.Entry.{AreInOrder}
use Rattle.template_snapshot.specs.Frozen.{frozen_at}
use Rattle.template_manager.specs.Rows.{stream_entry, timed_rows, NoTwoBehind}
use Rattle.template_manager.specs.Stands.{table_at}
use Rattle.template_manager.specs.State.{State}
use Rattle.template_manager.specs.contracts.manager.Manager.{the_view}
use Rattle.template_manager.proofs.RowsLemmas.{for_rows, stream_at, stream_few, stream_in_order, timed_at, timed_few, timed_in_order}
use Rattle.template_manager.proofs.manager.Manager.rows.Goals as goal

pub returns-in-Udp-clause-in_order : goal.returns-in-Udp-clause-in_order
returns-in-Udp-clause-in_order c = for_rows (λ v. v.items) AreInOrder c.timed_rows.result (timed_rows c.self.inside.timed) c.timed_rows.ensures.are (timed_in_order c.self.inside.timed c.timed_rows.ensures.ids c.timed_rows.ensures.in_order)

pub returns-in-Udp-clause-at : goal.returns-in-Udp-clause-at
returns-in-Udp-clause-at c =
    let old = the_view c.self.inside in
    subst (λ (m : State). IfOk c.timed_rows.result (λ rows. (e id : ℕ) → frozen_at rows.items e id ≡ table_at m.transport m e id)) c.self.view_is
    (for_rows (λ v. v.items) (λ rows. (e id : ℕ) → frozen_at rows e id ≡ table_at old.transport old e id) c.timed_rows.result (timed_rows c.self.inside.timed) c.timed_rows.ensures.are
    (λ e id. timed_at c.self.inside.timed c.timed_rows.ensures.ids e id ∙ subst (λ (by : Transport). table_at by old e id ≡ table_at old.transport old e id) c.in-Udp.is refl))

pub returns-in-Udp-clause-few : goal.returns-in-Udp-clause-few
returns-in-Udp-clause-few c =
    subst (λ (m : State). IfOk c.timed_rows.result (λ rows. NoTwoBehind m.life.late m.greatest rows.items)) c.self.view_is
    (for_rows (λ v. v.items) (NoTwoBehind c.self.inside.life.late c.self.inside.greatest) c.timed_rows.result (timed_rows c.self.inside.timed) c.timed_rows.ensures.are (timed_few c.self.inside.life.late c.self.inside.greatest c.self.inside.timed c.timed_rows.ensures.ids c.self.invariant.1))

pub returns-in-Tcp-clause-in_order : goal.returns-in-Tcp-clause-in_order
returns-in-Tcp-clause-in_order c = for_rows (λ v. v.items) AreInOrder c.rows.result (map stream_entry c.self.inside.ordered) c.rows.ensures.are (stream_in_order c.self.inside.ordered c.rows.ensures.ids)

pub returns-in-Tcp-clause-at : goal.returns-in-Tcp-clause-at
returns-in-Tcp-clause-at c =
    let old = the_view c.self.inside in
    subst (λ (m : State). IfOk c.rows.result (λ rows. (e id : ℕ) → frozen_at rows.items e id ≡ table_at m.transport m e id)) c.self.view_is
    (for_rows (λ v. v.items) (λ rows. (e id : ℕ) → frozen_at rows e id ≡ table_at old.transport old e id) c.rows.result (map stream_entry c.self.inside.ordered) c.rows.ensures.are
    (λ e id. stream_at c.self.inside.ordered c.rows.ensures.ids e id ∙ subst (λ (by : Transport). table_at by old e id ≡ table_at old.transport old e id) c.in-Tcp.is refl))

pub returns-in-Tcp-clause-few : goal.returns-in-Tcp-clause-few
returns-in-Tcp-clause-few c =
    subst (λ (m : State). IfOk c.rows.result (λ rows. NoTwoBehind m.life.late m.greatest rows.items)) c.self.view_is
    (for_rows (λ v. v.items) (NoTwoBehind c.self.inside.life.late c.self.inside.greatest) c.rows.result (map stream_entry c.self.inside.ordered) c.rows.ensures.are (stream_few c.self.inside.life.late c.self.inside.greatest c.self.inside.ordered c.rows.ensures.ids))

pub returns-in-File-clause-in_order : goal.returns-in-File-clause-in_order
returns-in-File-clause-in_order c = for_rows (λ v. v.items) AreInOrder c.rows-in-File.result (map stream_entry c.self.inside.ordered) c.rows-in-File.ensures.are (stream_in_order c.self.inside.ordered c.rows-in-File.ensures.ids)

pub returns-in-File-clause-at : goal.returns-in-File-clause-at
returns-in-File-clause-at c =
    let old = the_view c.self.inside in
    subst (λ (m : State). IfOk c.rows-in-File.result (λ rows. (e id : ℕ) → frozen_at rows.items e id ≡ table_at m.transport m e id)) c.self.view_is
    (for_rows (λ v. v.items) (λ rows. (e id : ℕ) → frozen_at rows e id ≡ table_at old.transport old e id) c.rows-in-File.result (map stream_entry c.self.inside.ordered) c.rows-in-File.ensures.are
    (λ e id. stream_at c.self.inside.ordered c.rows-in-File.ensures.ids e id ∙ subst (λ (by : Transport). table_at by old e id ≡ table_at old.transport old e id) c.in-File.is refl))

pub returns-in-File-clause-few : goal.returns-in-File-clause-few
returns-in-File-clause-few c =
    subst (λ (m : State). IfOk c.rows-in-File.result (λ rows. NoTwoBehind m.life.late m.greatest rows.items)) c.self.view_is
    (for_rows (λ v. v.items) (NoTwoBehind c.self.inside.life.late c.self.inside.greatest) c.rows-in-File.result (map stream_entry c.self.inside.ordered) c.rows-in-File.ensures.are (stream_few c.self.inside.life.late c.self.inside.greatest c.self.inside.ordered c.rows-in-File.ensures.ids))
