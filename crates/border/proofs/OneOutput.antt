-- The contract of each public function leaves one output (`OneOutput` of ground/specs/Unique.antt).
use Rattle.ground.specs.Unique.{OneOutput}
use Rattle.border.specs.contracts as said
use Rattle.ground.proofs.Unique.{agree}
use Rattle.border.proofs.hub
use Rattle.border.proofs.messages
use Rattle.border.proofs.meters
use Rattle.border.proofs.networks

-- A unit: the answer and the fresh table.
pub hub_puntclover_hub_fresh_once : OneOutput said.hub.puntclover_hub_fresh.ended hub.puntclover_hub_fresh.Reads.Learnt
hub_puntclover_hub_fresh_once _ _ _ _ p q i = (agree p.0 q.0 i, (_, (_, (agree p.1 q.1 i, _))))

-- The answer, the table and the buffer.
pub hub_puntclover_hub_up_once : OneOutput said.hub.puntclover_hub_up.ended hub.puntclover_hub_up.Reads.Learnt
hub_puntclover_hub_up_once _ _ _ _ p q i = (agree p.0 q.0 i, (agree p.1.0 q.1.0 i, (_, (_, (agree p.1.1 q.1.1 i, _)))))

pub hub_puntclover_hub_cost_once : OneOutput said.hub.puntclover_hub_cost.ended hub.puntclover_hub_cost.Reads.Learnt
hub_puntclover_hub_cost_once _ _ _ _ p q i = (agree p.0 q.0 i, (agree p.1.0 q.1.0 i, (_, (_, (agree p.1.1 q.1.1 i, _)))))

pub hub_puntclover_hub_down_once : OneOutput said.hub.puntclover_hub_down.ended hub.puntclover_hub_down.Reads.Learnt
hub_puntclover_hub_down_once _ _ _ _ p q i = (agree p.0 q.0 i, (agree p.1.0 q.1.0 i, (_, (agree p.1.1 q.1.1 i, _))))

pub hub_puntclover_hub_message_once : OneOutput said.hub.puntclover_hub_message.ended hub.puntclover_hub_message.Reads.Learnt
hub_puntclover_hub_message_once _ _ _ _ p q i = (agree p.0 q.0 i, (agree p.1.0 q.1.0 i, (_, (_, (agree p.1.1 q.1.1 i, _)))))

-- The answers to questions.
pub hub_puntclover_hub_state_once : OneOutput said.hub.puntclover_hub_state.ended hub.puntclover_hub_state.Reads.Learnt
hub_puntclover_hub_state_once _ _ _ _ p q i = (agree p q i, _)

pub hub_puntclover_hub_distance_once : OneOutput said.hub.puntclover_hub_distance.ended hub.puntclover_hub_distance.Reads.Learnt
hub_puntclover_hub_distance_once _ _ _ _ p q i = (agree p q i, _)

pub hub_puntclover_hub_feasible_once : OneOutput said.hub.puntclover_hub_feasible.ended hub.puntclover_hub_feasible.Reads.Learnt
hub_puntclover_hub_feasible_once _ _ _ _ p q i = (agree p q i, _)

pub hub_puntclover_hub_successors_once : OneOutput said.hub.puntclover_hub_successors.ended hub.puntclover_hub_successors.Reads.Learnt
hub_puntclover_hub_successors_once _ _ _ _ p q i = (agree p q i, _)

pub hub_puntclover_hub_link_once : OneOutput said.hub.puntclover_hub_link.ended hub.puntclover_hub_link.Reads.Learnt
hub_puntclover_hub_link_once _ _ _ _ p q i = (agree p q i, _)

pub hub_puntclover_hub_awaits_once : OneOutput said.hub.puntclover_hub_awaits.ended hub.puntclover_hub_awaits.Reads.Learnt
hub_puntclover_hub_awaits_once _ _ _ _ p q i = (agree p q i, _)

-- A message: the answer, and the fields or the frame.
pub messages_puntclover_message_read_once : OneOutput said.messages.puntclover_message_read.ended messages.puntclover_message_read.Reads.Learnt
messages_puntclover_message_read_once _ _ _ _ p q i = (agree p.0 q.0 i, (_, (_, (agree p.1 q.1 i, _))))

pub messages_puntclover_message_write_once : OneOutput said.messages.puntclover_message_write.ended messages.puntclover_message_write.Reads.Learnt
messages_puntclover_message_write_once _ _ _ _ p q i = (agree p.0 q.0 i, (_, (_, (_, (_, (agree p.1 q.1 i, _))))))

-- A network: the answer, the units and the queues.
pub networks_puntclover_network_fresh_once : OneOutput said.networks.puntclover_network_fresh.ended networks.puntclover_network_fresh.Reads.Learnt
networks_puntclover_network_fresh_once _ _ _ _ p q i = (agree p.0 q.0 i, (_, (agree p.1.0 q.1.0 i, (agree p.1.1 q.1.1 i, _))))

pub networks_puntclover_network_up_once : OneOutput said.networks.puntclover_network_up.ended networks.puntclover_network_up.Reads.Learnt
networks_puntclover_network_up_once _ _ _ _ p q i = (agree p.0 q.0 i, (agree p.1.0 q.1.0 i, (agree p.1.1 q.1.1 i, _)))

pub networks_puntclover_network_cost_once : OneOutput said.networks.puntclover_network_cost.ended networks.puntclover_network_cost.Reads.Learnt
networks_puntclover_network_cost_once _ _ _ _ p q i = (agree p.0 q.0 i, (agree p.1.0 q.1.0 i, (agree p.1.1 q.1.1 i, _)))

pub networks_puntclover_network_down_once : OneOutput said.networks.puntclover_network_down.ended networks.puntclover_network_down.Reads.Learnt
networks_puntclover_network_down_once _ _ _ _ p q i = (agree p.0 q.0 i, (agree p.1.0 q.1.0 i, (agree p.1.1 q.1.1 i, _)))

pub networks_puntclover_network_deliver_once : OneOutput said.networks.puntclover_network_deliver.ended networks.puntclover_network_deliver.Reads.Learnt
networks_puntclover_network_deliver_once _ _ _ _ p q i = (agree p.0 q.0 i, (agree p.1.0 q.1.0 i, (agree p.1.1 q.1.1 i, _)))

-- The answers to questions.
pub networks_puntclover_network_state_once : OneOutput said.networks.puntclover_network_state.ended networks.puntclover_network_state.Reads.Learnt
networks_puntclover_network_state_once _ _ _ _ p q i = (agree p q i, _)

pub networks_puntclover_network_distance_once : OneOutput said.networks.puntclover_network_distance.ended networks.puntclover_network_distance.Reads.Learnt
networks_puntclover_network_distance_once _ _ _ _ p q i = (agree p q i, _)

pub networks_puntclover_network_feasible_once : OneOutput said.networks.puntclover_network_feasible.ended networks.puntclover_network_feasible.Reads.Learnt
networks_puntclover_network_feasible_once _ _ _ _ p q i = (agree p q i, _)

pub networks_puntclover_network_successors_once : OneOutput said.networks.puntclover_network_successors.ended networks.puntclover_network_successors.Reads.Learnt
networks_puntclover_network_successors_once _ _ _ _ p q i = (agree p q i, _)

pub networks_puntclover_network_link_once : OneOutput said.networks.puntclover_network_link.ended networks.puntclover_network_link.Reads.Learnt
networks_puntclover_network_link_once _ _ _ _ p q i = (agree p q i, _)

pub networks_puntclover_network_awaits_once : OneOutput said.networks.puntclover_network_awaits.ended networks.puntclover_network_awaits.Reads.Learnt
networks_puntclover_network_awaits_once _ _ _ _ p q i = (agree p q i, _)

-- The answer and the path.
pub networks_puntclover_network_trace_once : OneOutput said.networks.puntclover_network_trace.ended networks.puntclover_network_trace.Reads.Learnt
networks_puntclover_network_trace_once _ _ _ _ p q i = (agree p.0 q.0 i, (_, (_, (_, (_, (_, (agree p.1 q.1 i, _)))))))

-- A meter: the answer and the table.
pub meters_puntclover_meter_fresh_once : OneOutput said.meters.puntclover_meter_fresh.ended meters.puntclover_meter_fresh.Reads.Learnt
meters_puntclover_meter_fresh_once _ _ _ _ p q i = (agree p.0 q.0 i, (agree p.1 q.1 i, _))

pub meters_puntclover_meter_enter_once : OneOutput said.meters.puntclover_meter_enter.ended meters.puntclover_meter_enter.Reads.Learnt
meters_puntclover_meter_enter_once _ _ _ _ p q i = (agree p.0 q.0 i, (_, (_, (agree p.1 q.1 i, _))))

pub meters_puntclover_meter_move_once : OneOutput said.meters.puntclover_meter_move.ended meters.puntclover_meter_move.Reads.Learnt
meters_puntclover_meter_move_once _ _ _ _ p q i = (agree p.0 q.0 i, (_, (_, (agree p.1 q.1 i, _))))

pub meters_puntclover_meter_drop_once : OneOutput said.meters.puntclover_meter_drop.ended meters.puntclover_meter_drop.Reads.Learnt
meters_puntclover_meter_drop_once _ _ _ _ p q i = (agree p.0 q.0 i, (_, (_, (agree p.1 q.1 i, _))))

-- The answers to questions.
pub meters_puntclover_meter_entered_once : OneOutput said.meters.puntclover_meter_entered.ended meters.puntclover_meter_entered.Reads.Learnt
meters_puntclover_meter_entered_once _ _ _ _ p q i = (agree p q i, _)

pub meters_puntclover_meter_delivered_once : OneOutput said.meters.puntclover_meter_delivered.ended meters.puntclover_meter_delivered.Reads.Learnt
meters_puntclover_meter_delivered_once _ _ _ _ p q i = (agree p q i, _)

pub meters_puntclover_meter_dropped_once : OneOutput said.meters.puntclover_meter_dropped.ended meters.puntclover_meter_dropped.Reads.Learnt
meters_puntclover_meter_dropped_once _ _ _ _ p q i = (agree p q i, _)

pub meters_puntclover_meter_held_once : OneOutput said.meters.puntclover_meter_held.ended meters.puntclover_meter_held.Reads.Learnt
meters_puntclover_meter_held_once _ _ _ _ p q i = (agree p q i, _)

pub meters_puntclover_meter_frames_once : OneOutput said.meters.puntclover_meter_frames.ended meters.puntclover_meter_frames.Reads.Learnt
meters_puntclover_meter_frames_once _ _ _ _ p q i = (agree p q i, _)

pub meters_puntclover_meter_frame_size_once : OneOutput said.meters.puntclover_meter_frame_size.ended meters.puntclover_meter_frame_size.Reads.Learnt
meters_puntclover_meter_frame_size_once _ _ _ _ p q i = (agree p q i, _)

pub meters_puntclover_meter_frame_unit_once : OneOutput said.meters.puntclover_meter_frame_unit.ended meters.puntclover_meter_frame_unit.Reads.Learnt
meters_puntclover_meter_frame_unit_once _ _ _ _ p q i = (agree p q i, _)

pub meters_puntclover_meter_frame_destination_once : OneOutput said.meters.puntclover_meter_frame_destination.ended meters.puntclover_meter_frame_destination.Reads.Learnt
meters_puntclover_meter_frame_destination_once _ _ _ _ p q i = (agree p q i, _)

pub meters_puntclover_meter_frame_hops_once : OneOutput said.meters.puntclover_meter_frame_hops.ended meters.puntclover_meter_frame_hops.Reads.Learnt
meters_puntclover_meter_frame_hops_once _ _ _ _ p q i = (agree p q i, _)
