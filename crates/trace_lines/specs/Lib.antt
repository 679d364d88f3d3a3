pub mod DeliveryLines
